-- What holds of two calls that were done, joins and selections alike, from their contracts: they wrote the same pieces exactly when their rules admit the same points with the same values, and cutting a range in two changes nothing that is written. Assumes nothing.
use Prim.Native.Nat.{ℕ, ◌+◌, ◌≤◌, ◌<◌}
use mathlib.Core.Path.{◌≡◌, refl, sym, ap, ◌∙◌}
use mathlib.Core.Logic.{◌↔◌}
use Rattle.std.specs.declared.result.Result.TheVariants.{Ok, Err}
use mathlib.Core.List.{List, [], ◌∷◌, ◌++◌, map}
use native.Mathlib.Omega.{arith}
use lib.ListN.{length, get_or, take, drop, length-map}
use lib.Seq.{take_at}
use Rattle.integer.specs.Faithful.{Faithful}
use Rattle.rules.specs.Piece.{Range, column, Within, AllWellFormed}
use Rattle.rules.specs.Lists.{Width, Lent, lists}
use Rattle.rules.specs.Answer.{Judgement, Outcome, judge, settle, front, leaves}
use Rattle.rules.specs.Merged.{Merged, room, lay}
use Rattle.rules.specs.Refusals.{turn}
use Rattle.rules.proofs.At.{within_le}
use Rattle.rules.proofs.Refusals.{given, done_writes, refused_early, sound_formed, lists_formed}
use Rattle.many_way_rules.specs.Operations.{full, union, kind_of, rule_of, merged}
use Rattle.many_way_rules.specs.Outcomes.{merging}
use Rattle.many_way_rules.specs.declared.Operation.{Operation}
use Rattle.many_way_rules.proofs.Condition3.{halves, merged_right, merged_same, merged_cut}

-- the first n places of the columns
abbrev pub written : {P : Type 0} → ℕ → Merged P → Merged P
written n d = record { start = take n d.start; end = take n d.end; value = take n d.value }

take_front : {A R : Type 0} (f : R → A) (xs : List R) (l : List A) → take (length xs) (front f xs l) ≡ map f xs
take_front f xs l = take_at (map f xs) (drop (0 + length xs) l) (length xs) (length-map xs f)

module _ {P : Type 0} {Fits : P → Type 0} {w : Width P} (f : Faithful w Fits) where
  abbrev pub rows : List Range → Merged P
  rows xs = record { start = map (λ x. w.point x.start) xs; end = map (λ x. w.point x.end) xs; value = map (λ x. x.value) xs }

  same_key : (a b : ℕ) → a < w.points → b < w.points → w.point a ≡ w.point b → a ≡ b
  same_key a b h k e = sym (f.key_point a h) ∙ ap w.key e ∙ f.key_point b k

  -- pieces are told by what is written of them
  pub rows_same : (b b' : ℕ) (xs ys : List Range) → Within b w.points xs → Within b' w.points ys → rows xs ≡ rows ys → xs ≡ ys
  rows_same b b' [] [] u v e = refl
  rows_same b b' [] (y ∷ ys) u v e = let q = ap (λ (c : Merged P). length c.value) e in absurd (omega arith)
  rows_same b b' (x ∷ xs) [] u v e = let q = ap (λ (c : Merged P). length c.value) e in absurd (omega arith)
  rows_same b b' (x ∷ xs) (y ∷ ys) u v e =
      let es = ap (λ (c : Merged P). c.start) e in
      let ee = ap (λ (c : Merged P). c.end) e in
      let ev = ap (λ (c : Merged P). c.value) e in
      let m = within_le (x.end + 1) w.points xs u.2 in
      let n = within_le (y.end + 1) w.points ys v.2 in
      let hs : w.point x.start ≡ w.point y.start = cc in
      let he : w.point x.end ≡ w.point y.end = cc in
      let hv : x.value ≡ y.value = cc in
      let ts : map (λ z. w.point z.start) xs ≡ map (λ z. w.point z.start) ys = cc in
      let te : map (λ z. w.point z.end) xs ≡ map (λ z. w.point z.end) ys = cc in
      let tv : map (λ z. z.value) xs ≡ map (λ z. z.value) ys = cc in
      let ks = same_key x.start y.start (omega arith) (omega arith) hs in
      let ke = same_key x.end y.end (omega arith) (omega arith) he in
      λ i. record { start = ks i; end = ke i; value = hv i } ∷ rows_same (x.end + 1) (y.end + 1) xs ys u.2 v.2 (λ j. record { start = ts j; end = te j; value = tv j }) i

  -- a call that was done: what its contract says, with ends that are points of the width
  pub record Call (o : Operation) (l : Lent P) (c d : Merged P) (n : ℕ) : Type 0 where
    pub outcome : leaves (Ok n) d ≡ merging w o l c
    pub ends_fit : (i : ℕ) → i < length l.ends → Fits (get_or l.ends i (w.point 0))

  module _ {o : Operation} {l : Lent P} {c d : Merged P} {n : ℕ} (k : Call o l c d n) where
    abbrev pub pieces : List Range
    pieces = merged o w.points (lists w l)

    done : settle (judge w (kind_of o) l) (length pieces) (room c) c (lay w 0 pieces c) ≡ leaves (Ok n) d
    unfolding merging
    done = sym k.outcome

    answers : (settle (judge w (kind_of o) l) (length pieces) (room c) c (lay w 0 pieces c)).answer ≡ Ok n
    answers = ap (λ (r : Outcome (Merged P)). r.answer) done

    pub counted : n ≡ length pieces
    counted = ((given w (kind_of o) l (length pieces) (room c) c (lay w 0 pieces c) (Ok n)).0 answers).0

    pub laid : d ≡ lay w 0 pieces c
    laid = ap (λ (r : Outcome (Merged P)). r.columns) (sym done) ∙ done_writes w (kind_of o) l (length pieces) (room c) c (lay w 0 pieces c) n answers

    rows_are : written n d ≡ rows pieces
    rows_are = rw (counted, laid) (λ i. record { start = take_front (λ x. w.point x.start) pieces c.start i; end = take_front (λ x. w.point x.end) pieces c.end i; value = take_front (λ x. x.value) pieces c.value i })

    sound : judge w (kind_of o) l ≡ Ok tt
    sound = go (judge w (kind_of o) l) refl answers
      where
        go : (j : Judgement) → judge w (kind_of o) l ≡ j → (settle j (length pieces) (room c) c (lay w 0 pieces c)).answer ≡ Ok n → judge w (kind_of o) l ≡ Ok tt
        go (Ok u) q e = q
        go (Err a) q e = absurd (omega (arith, refused_early w (kind_of o) l 0 0 a q, ap turn e))

    pub formed : AllWellFormed w.points (lists w l)
    formed = lists_formed (sound_formed w (kind_of o) l (λ i h. f.below _ (k.ends_fit i h)) sound)

    pub ascending : Within 0 w.points pieces
    ascending = (merged_right w.points o (lists w l) formed).ascending

  -- whatever the operations, joins or selections, their combiners, lists and list counts
  module _ {o o' : Operation} {l l' : Lent P} {c d c' d' : Merged P} {n n' : ℕ} (k : Call o l c d n) (k' : Call o' l' c' d' n') where
    pub calls_same : (written n d ≡ written n' d') ↔ ((p : ℕ) → p < w.points → rule_of o (column (lists w l) p) ≡ rule_of o' (column (lists w l') p))
    calls_same =
        let same = merged_same w.points o (lists w l) (formed k) o' (lists w l') (formed k') in
        (λ e. same.0 (rows_same 0 0 (pieces k) (pieces k') (ascending k) (ascending k') (sym (rows_are k) ∙ e ∙ rows_are k')), λ e. rows_are k ∙ ap rows (same.1 e) ∙ sym (rows_are k'))

  -- so a union writes what a full join does where the combiner gives the highest list's value at every point
  pub union_is_full : {combiner : ℕ} {l l' : Lent P} {c d c' d' : Merged P} {n n' : ℕ} → Call union l c d n → Call (full combiner) l' c' d' n' → ((p : ℕ) → p < w.points → rule_of union (column (lists w l) p) ≡ rule_of (full combiner) (column (lists w l') p)) → written n d ≡ written n' d'
  union_is_full k k' = (calls_same k k').1

  -- the list that is cut stands above some lists and below others; its range x, cut after its point m, stands between xs and ys
  module _ (x : Range) (m : ℕ) (low : x.start ≤ m) (high : m < x.end) (xs ys : List Range) (below above : List (List Range)) where
    pub calls_cut : {o : Operation} {l l' : Lent P} {c d c' d' : Merged P} {n n' : ℕ} → Call o l c d n → Call o l' c' d' n' → lists w l ≡ below ++ (xs ++ x ∷ ys) ∷ above → lists w l' ≡ below ++ (xs ++ halves x m ys) ∷ above → (n ≡ n') × (written n d ≡ written n' d')
    calls_cut {o} k k' e e' =
        let q = ap (merged o w.points) e ∙ merged_cut x m low high xs ys below above w.points o (rw e at (formed k)) ∙ ap (merged o w.points) (sym e') in
        (counted k ∙ ap length q ∙ sym (counted k'), rows_are k ∙ ap rows q ∙ sym (rows_are k'))
