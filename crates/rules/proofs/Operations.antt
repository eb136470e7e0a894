-- Operations as calls: each answer exactly when the table says so for an operation of its kind, and what each place of each column holds afterwards. Assumes nothing.
use Prim.Native.Nat.{ℕ, ◌+◌, ◌≤◌, ◌<◌}
use mathlib.Core.Path.{◌≡◌, refl, sym, ap, ◌∙◌, subst}
use mathlib.Core.Logic.{◌↔◌, ◌≢◌}
use Rattle.std.specs.declared.option.Option.TheVariants.{None, Some}
use mathlib.Core.List.{List, [], ◌∷◌}
use native.Mathlib.Omega.{arith}
use lib.IntN.{ℤ, pos}
use lib.ListN.{length, get_or}
use Rattle.std.specs.declared.result.Result.TheVariants.{Ok, Err}
use Rattle.rules.specs.Piece.{Piece, Range}
use Rattle.rules.specs.Lists.{Width, Lent, lists, tracks}
use Rattle.rules.specs.Answer.{Answer, code_of, judge, Outcome, settle, least, front}
use Rattle.rules.specs.Sweep.{Event, starts, ends, point, kind, list, events}
use Rattle.rules.specs.TwoWay.{Match, paired, side_value, presence}
use Rattle.rules.specs.Merged.{Merged}
use Rattle.rules.specs.Paired.{Paired}
use Rattle.rules.specs.Listed.{Listed, event_value}
use Rattle.rules.specs.Merged as merged_columns
use Rattle.rules.specs.Paired as paired_columns
use Rattle.rules.specs.Listed as listed_columns
use Rattle.rules.specs.Outcomes.{pairing, listing}
use Rattle.rules.specs.Refusals.{Given}
use Rattle.rules.specs.declared.Refusal.TheVariants.{NoRoom}
use Rattle.rules.specs.declared.Kind.{Kind}
use Rattle.rules.specs.declared.Kind.TheVariants.{Listing, TwoWay}
use Rattle.rules.specs.declared.Pairing.{Pairing}
use Rattle.rules.proofs.Extreme.{Shortest, least_exactly}
use Rattle.rules.proofs.Fronts.{laid_long, laid_at, laid_after}
use Rattle.rules.proofs.Refusals.{refused_keeps, given, done_writes}

-- a column has a at place i
pub record Has {A : Type 0} (l : List A) (i : ℕ) (a : A) : Type 0 where
  pub within : i < length l
  pub there : (d : A) → get_or l i d ≡ a

-- a column is as long as it was, and from place n on has what it had
pub record Unchanged {A : Type 0} (n : ℕ) (old new : List A) : Type 0 where
  pub long : length new ≡ length old
  pub rest : (i : ℕ) (d : A) → n ≤ i → get_or new i d ≡ get_or old i d

-- What a call with the pieces rs leaves of the columns c, an operation being of kind k: each answer exactly when its row of the table says so,
-- the room being the shortest of the lengths; a refusal leaves the columns; what is done has each piece in its place, and later places as they were.
pub record Settled {P C R : Type 0} (w : Width P) (k : Kind) (l : Lent P) (rs : List R) (lengths : List ℕ) (Row : C → ℕ → R → Type 0) (Later : ℕ → C → C → Type 0) (c : C) (out : Outcome C) : Type 0 where
  pub answer : (room : ℕ) → Shortest lengths room → (a : Answer) → (out.answer ≡ a) ↔ Given w k l (length rs) room a
  pub refused : code_of out.answer ≢ 0 → out.columns ≡ c
  pub written : (n : ℕ) → out.answer ≡ Ok n → (i : ℕ) (r : R) → i < length rs → Row out.columns i (get_or rs i r)
  pub later : (n : ℕ) → out.answer ≡ Ok n → Later (length rs) c out.columns

module _ {P C R : Type 0} (w : Width P) (k : Kind) (l : Lent P) (rs : List R) (n : ℕ) (ns : List ℕ) (Row : C → ℕ → R → Type 0) (Later : ℕ → C → C → Type 0) (c after : C) where
  abbrev out : Outcome C
  out = settle (judge w k l) (length rs) (least (n ∷ ns)) c after

  all_fit : (m : ℕ) → out.answer ≡ Ok m → length rs ≤ least (n ∷ ns)
  all_fit m q =
      let g = (given w k l (length rs) (least (n ∷ ns)) c after (Ok m)).0 q in
      let h : least (n ∷ ns) < length rs → ⊥ = λ h. g.1 (Err (NoRoom (length rs))) (omega arith) (h, refl) in
      omega arith

  -- where the columns after the call hold the pieces if all of them fit
  pub settles : (length rs ≤ least (n ∷ ns) → (i : ℕ) (r : R) → i < length rs → Row after i (get_or rs i r)) → (length rs ≤ least (n ∷ ns) → Later (length rs) c after) → Settled w k l rs (n ∷ ns) Row Later c out
  settles row rest =
      record {
        answer = λ room s a. subst (λ m. (out.answer ≡ a) ↔ Given w k l (length rs) m a) ((least_exactly n ns room).1 s) (given w k l (length rs) (least (n ∷ ns)) c after a);
        refused = refused_keeps (length rs) (least (n ∷ ns)) c after (judge w k l);
        written = λ m q i r h. subst (λ d. Row d i (get_or rs i r)) (sym (done_writes w k l (length rs) (least (n ∷ ns)) c after m q)) (row (all_fit m q) i r h);
        later = λ m q. subst (Later (length rs) c) (sym (done_writes w k l (length rs) (least (n ∷ ns)) c after m q)) (rest (all_fit m q));
      }

-- one column with what f takes of each piece at its front
module _ {A R : Type 0} (f : R → A) (rs : List R) (old : List A) (h : length rs ≤ length old) where
  pub front_has : (i : ℕ) (r : R) → i < length rs → Has (front f rs old) i (f (get_or rs i r))
  front_has i r l =
      let e : 0 + i ≡ i = omega arith in
      record { within = omega (arith, laid_long f 0 rs old (omega arith)); there = λ d. ap (λ j. get_or (front f rs old) j d) (sym e) ∙ laid_at f 0 rs old (omega arith) i d r l }

  pub front_keeps : Unchanged (length rs) old (front f rs old)
  front_keeps = record { long = laid_long f 0 rs old (omega arith); rest = λ i d l. laid_after f 0 rs old (omega arith) i d (omega arith) }

-- the rows of a many-way join or selection
abbrev pub MergedRow : {P : Type 0} → Width P → Merged P → ℕ → Range → Type 0
MergedRow w c i x = Has c.start i (w.point x.start) × Has c.end i (w.point x.end) × Has c.value i x.value

abbrev pub MergedLater : {P : Type 0} → ℕ → Merged P → Merged P → Type 0
MergedLater n c d = Unchanged n c.start d.start × Unchanged n c.end d.end × Unchanged n c.value d.value

-- the rows of a two-way operation, whose values are v by their places; a missing side is written as value 0 with its presence bit clear: bit 0 left, bit 1 right
abbrev pub Sides : {P : Type 0} → (ℕ → ℤ) → Paired P → ℕ → Match → Type 0
Sides v c i (None, None) = Has c.left i (pos 0) × Has c.right i (pos 0) × Has c.presence i 0
Sides v c i (Some j, None) = Has c.left i (v j) × Has c.right i (pos 0) × Has c.presence i 1
Sides v c i (None, Some k) = Has c.left i (pos 0) × Has c.right i (v k) × Has c.presence i 2
Sides v c i (Some j, Some k) = Has c.left i (v j) × Has c.right i (v k) × Has c.presence i 3

abbrev pub PairRow : {P : Type 0} → Width P → (ℕ → ℤ) → Paired P → ℕ → Piece Match → Type 0
PairRow w v c i x = Has c.start i (w.point x.start) × Has c.end i (w.point x.end) × Sides v c i x.value

abbrev pub PairsLater : {P : Type 0} → ℕ → Paired P → Paired P → Type 0
PairsLater n c d = Unchanged n c.start d.start × Unchanged n c.end d.end × Unchanged n c.left d.left × Unchanged n c.right d.right × Unchanged n c.presence d.presence

-- the rows of the event listing: kind 0 for a start, and 1 for an end, whose value is 0
abbrev pub EventRow : {P : Type 0} → Width P → Listed P → ℕ → Event ℤ → Type 0
EventRow w c i (starts p k v) = Has c.kind i 0 × Has c.point i (w.point p) × Has c.list i k × Has c.value i v
EventRow w c i (ends p k) = Has c.kind i 1 × Has c.point i (w.point p) × Has c.list i k × Has c.value i (pos 0)

abbrev pub EventsLater : {P : Type 0} → ℕ → Listed P → Listed P → Type 0
EventsLater n c d = Unchanged n c.kind d.kind × Unchanged n c.point d.point × Unchanged n c.list d.list × Unchanged n c.value d.value

module _ {P : Type 0} (v : ℕ → ℤ) (c : Paired P) (i : ℕ) where
  sides : (m : Match) → Has c.left i (side_value v m.0) → Has c.right i (side_value v m.1) → Has c.presence i (presence m) → Sides v c i m
  sides (None, None) a b p = (a, b, p)
  sides (Some j, None) a b p = (a, b, p)
  sides (None, Some k) a b p = (a, b, p)
  sides (Some j, Some k) a b p = (a, b, p)

module _ {P : Type 0} (w : Width P) (c : Listed P) (i : ℕ) where
  event_row : (e : Event ℤ) → Has c.kind i (kind e) → Has c.point i (w.point (point e)) → Has c.list i (list e) → Has c.value i (event_value e) → EventRow w c i e
  event_row (starts p k v) a b d e = (a, b, d, e)
  event_row (ends p k) a b d e = (a, b, d, e)

module _ {P : Type 0} (w : Width P) (xs : List Range) (c : Merged P) (h : length xs ≤ merged_columns.room c) where
  merged_rows : (i : ℕ) (x : Range) → i < length xs → MergedRow w (merged_columns.lay w 0 xs c) i (get_or xs i x)
  merged_rows i x l = (front_has _ xs c.start (omega arith) i x l, front_has _ xs c.end (omega arith) i x l, front_has _ xs c.value (omega arith) i x l)

  merged_later : MergedLater (length xs) c (merged_columns.lay w 0 xs c)
  merged_later = (front_keeps _ xs _ (omega arith), front_keeps _ xs _ (omega arith), front_keeps _ xs _ (omega arith))

module _ {P : Type 0} (w : Width P) (v : ℕ → ℤ) (xs : List (Piece Match)) (c : Paired P) (h : length xs ≤ paired_columns.room c) where
  pair_rows : (i : ℕ) (x : Piece Match) → i < length xs → PairRow w v (paired_columns.lay w v 0 xs c) i (get_or xs i x)
  pair_rows i x l = (
    front_has _ xs c.start (omega arith) i x l,
    front_has _ xs c.end (omega arith) i x l,
    sides v (paired_columns.lay w v 0 xs c) i (get_or xs i x).value (front_has _ xs c.left (omega arith) i x l) (front_has _ xs c.right (omega arith) i x l) (front_has _ xs c.presence (omega arith) i x l),
  )

  pairs_later : PairsLater (length xs) c (paired_columns.lay w v 0 xs c)
  pairs_later = (front_keeps _ xs _ (omega arith), front_keeps _ xs _ (omega arith), front_keeps _ xs _ (omega arith), front_keeps _ xs _ (omega arith), front_keeps _ xs _ (omega arith))

module _ {P : Type 0} (w : Width P) (es : List (Event ℤ)) (c : Listed P) (h : length es ≤ listed_columns.room c) where
  event_rows : (i : ℕ) (e : Event ℤ) → i < length es → EventRow w (listed_columns.lay w 0 es c) i (get_or es i e)
  event_rows i e l =
      event_row w (listed_columns.lay w 0 es c) i (get_or es i e)
      (front_has _ es c.kind (omega arith) i e l) (front_has _ es c.point (omega arith) i e l) (front_has _ es c.list (omega arith) i e l) (front_has _ es c.value (omega arith) i e l)

  events_later : EventsLater (length es) c (listed_columns.lay w 0 es c)
  events_later = (front_keeps _ es _ (omega arith), front_keeps _ es _ (omega arith), front_keeps _ es _ (omega arith), front_keeps _ es _ (omega arith))

module _ {P : Type 0} (w : Width P) (l : Lent P) where
  -- an operation of kind k that merges
  pub merged_settled : (k : Kind) (xs : List Range) (c : Merged P) → Settled w k l xs (length c.start ∷ length c.end ∷ length c.value ∷ []) (MergedRow w) MergedLater c (settle (judge w k l) (length xs) (merged_columns.room c) c (merged_columns.lay w 0 xs c))
  merged_settled k xs c = settles w k l xs _ _ (MergedRow w) MergedLater c (merged_columns.lay w 0 xs c) (merged_rows w xs c) (merged_later w xs c)

  pub pairing_settled : (o : Pairing) (c : Paired P) → Settled w TwoWay l (paired o w.points (tracks w l)) (length c.start ∷ length c.end ∷ length c.left ∷ length c.right ∷ length c.presence ∷ []) (PairRow w (λ i. get_or l.values i (pos 0))) PairsLater c (pairing w o l c)
  unfolding pairing
  pairing_settled o c =
      let xs = paired o w.points (tracks w l) in
      let v : ℕ → ℤ = λ i. get_or l.values i (pos 0) in
      settles w TwoWay l xs _ _ (PairRow w v) PairsLater c (paired_columns.lay w v 0 xs c) (pair_rows w v xs c) (pairs_later w v xs c)

  pub listing_settled : (c : Listed P) → Settled w Listing l (events (lists w l)) (length c.kind ∷ length c.point ∷ length c.list ∷ length c.value ∷ []) (EventRow w) EventsLater c (listing w l c)
  unfolding listing
  listing_settled c =
      let es = events (lists w l) in
      settles w Listing l es _ _ (EventRow w) EventsLater c (listed_columns.lay w 0 es c) (event_rows w es c) (events_later w es c)
