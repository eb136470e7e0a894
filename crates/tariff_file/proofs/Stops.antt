-- Where a record, and readers in turn, stop, whatever they read. Assumes nothing.
use Prim.Native.Nat.{ℕ, zero, suc, ◌+◌, ◌≤◌, ◌<◌}
use mathlib.Core.Path.{◌≡◌, refl, sym, ap, subst, ◌∙◌}
use mathlib.Core.Logic.{◌≢◌, ◌⊎◌, inl, inr}
use mathlib.Core.Bool.{Bool, true, false, cond, ◌&&◌}
use mathlib.Core.List.{List, [], ◌∷◌, ◌++◌, map, append_assoc}
use native.Mathlib.Omega.{arith}
use native.Mathlib.Nat.{add-zero}
use lib.Dec.{leb, eqb}
use lib.ListN.{length, take, drop, length-append}
use borrow.Author.Tests.{leb-true, leb-false, eqb-true, eqb-false}
use Rattle.many_way_rules.specs.Sheet.{flat}
use Rattle.tariff_file.specs.Layout.{Bytes, Layout, Held, sizes, values}
use Rattle.tariff_file.specs.Reader.{Parsed, stop, got, Reader, Fault, judged, follow, ◌then◌, one, many}
use Rattle.tariff_file.specs.Given.{Whole}
use Rattle.tariff_file.specs.declared.Refusal.{Refusal}
use Rattle.tariff_file.specs.declared.Refusal.TheVariants.{CutShort, WrongMark}
use Rattle.tariff_file.proofs.Sequence.{Format, AllOk, flat_append, bytes_after}

-- A RECORD: the test that it fails
module _ (l : Layout) (asked : Held l → Fault) (at : ℕ) (b : List ℕ) where
  abbrev pub Unmarked : Type 0
  Unmarked = (2 ≤ length b) × (take 2 b ≢ l.first ∷ l.second ∷ [])

  abbrev pub Short : Type 0
  Short = length b < 2 + sizes l.fields

  abbrev pub said : Held l
  said = values l.fields (drop 2 b)

  -- how reading it ends
  pub data Ends : Type 0 where
    unmarked : Unmarked → one l asked at b ≡ stop (WrongMark at) → Ends
    short : Short → (Unmarked → ⊥) → one l asked at b ≡ stop (CutShort at) → Ends
    whole : (Short → ⊥) → (Unmarked → ⊥) → (past : ℕ) (rest : List ℕ) → one l asked at b ≡ judged (asked said) at (got said past rest) → Ends

pub ends : (l : Layout) (asked : Held l → Fault) (at : ℕ) (b : List ℕ) → Ends l asked at b
unfolding one
ends l asked at [] = short (omega arith) (λ u. omega (arith, u.0)) refl
ends l asked at (x ∷ []) = short (omega arith) (λ u. omega (arith, u.0)) refl
ends l asked at (x ∷ y ∷ b) = go (eqb x l.first) refl (eqb y l.second) refl (leb (sizes l.fields) (length b)) refl refl
  where
    marked : eqb x l.first ≡ true → eqb y l.second ≡ true → x ∷ y ∷ [] ≡ l.first ∷ l.second ∷ []
    marked e f = λ i. eqb-true x l.first e i ∷ eqb-true y l.second f i ∷ []

    go : (p : Bool) → eqb x l.first ≡ p → (q : Bool) → eqb y l.second ≡ q → (t : Bool) → leb (sizes l.fields) (length b) ≡ t
        → one l asked at (x ∷ y ∷ b) ≡ (let n = sizes l.fields in let v = values l.fields b in cond (p && q) (cond t (judged (asked v) at (got v (at + (2 + n)) (drop n b))) (stop (CutShort at))) (stop (WrongMark at)))
        → Ends l asked at (x ∷ y ∷ b)
    go false ep q eq t et e = unmarked (omega arith, λ m. eqb-false x l.first ep (cc)) e
    go true ep false eq t et e = unmarked (omega arith, λ m. eqb-false y l.second eq (cc)) e
    go true ep true eq false et e = short (omega (arith, leb-false (sizes l.fields) (length b) et)) (λ u. u.1 (marked ep eq)) e
    go true ep true eq true et e = whole (λ h. omega (arith, leb-true (sizes l.fields) (length b) et)) (λ u. u.1 (marked ep eq)) (at + (2 + sizes l.fields)) (drop (sizes l.fields) b) e

-- WHOLE RECORDS, before and after others
pub whole_both : {rs ss : List (List ℕ)} {from : ℕ} {b : List ℕ} {mid : ℕ} {c : List ℕ} {at : ℕ} {d : List ℕ} → Whole rs from b mid c → Whole ss mid c at d → Whole (rs ++ ss) from b at d
whole_both {rs} {ss} {d = d} v w =
    let f = flat_append rs ss in
    record {
      same = v.same ∙ ap (λ (l : List ℕ). flat rs ++ l) w.same ∙ sym (append_assoc (flat rs) (flat ss) d) ∙ ap (λ (l : List ℕ). l ++ d) (sym f);
      place = omega (arith, v.place, w.place, ap length f, length-append (flat rs) (flat ss));
    }

module _ (rs ss : List (List ℕ)) {from : ℕ} {b : List ℕ} {at : ℕ} {c : List ℕ} (w : Whole (rs ++ ss) from b at c) where
  abbrev pub middle : ℕ
  middle = from + length (flat rs)

  abbrev pub later : List ℕ
  later = flat ss ++ c

  pub whole_first : Whole rs from b middle later
  whole_first = record { same = w.same ∙ ap (λ (l : List ℕ). l ++ c) (flat_append rs ss) ∙ append_assoc (flat rs) (flat ss) c; place = refl }

  pub whole_next : Whole ss middle later at c
  whole_next = record { same = refl; place = omega (arith, w.place, ap length (flat_append rs ss), length-append (flat rs) (flat ss)) }

-- READERS IN TURN
module _ {A : Type 0} where
  pub last_stops : {B : Type 0} (f : A → B) (x : Parsed A) (r : Refusal) → follow x (λ a. got (f a)) ≡ stop r → x ≡ stop r
  last_stops f (stop s) r e = let q : s ≡ r = cc in ap {B = Parsed A} stop q
  last_stops f (got a at b) r e = cc

module _ {A B : Type 0} {p : Reader A} {R : A → List (List ℕ)} {Ok : A → Type 0} (law : Format p R Ok) (k : A → Reader B) where
  pub then_past : (a : A) → Ok a → {from : ℕ} {b : List ℕ} {at : ℕ} {c : List ℕ} → Whole (R a) from b at c → (p then k) from b ≡ k a at c
  then_past a h {from} {c = c} w = (λ i. follow (p from (w.same i)) k) ∙ ap (λ r. follow r k) ((law.reads a h).whole from c) ∙ ap (λ (m : ℕ). k a m c) (sym w.place)

  -- p is past, and k stops
  pub record Beyond (from : ℕ) (b : List ℕ) (r : Refusal) : Type 0 where
    pub value : A
    pub ok : Ok value
    pub at : ℕ
    pub rest : List ℕ
    pub whole : Whole (R value) from b at rest
    pub stops : k value at rest ≡ stop r

  pub then_stops : (from : ℕ) (b : List ℕ) (r : Refusal) → Bytes b → (p then k) from b ≡ stop r → (p from b ≡ stop r) ⊎ Beyond from b r
  then_stops from b r y e = go (p from b) refl e
    where
      go : (x : Parsed A) → p from b ≡ x → follow x k ≡ stop r → (p from b ≡ stop r) ⊎ Beyond from b r
      go (stop s) q e = let z : s ≡ r = cc in inl (q ∙ ap {B = Parsed A} stop z)
      go (got a at c) q e =
          let g = law.only from b a at c y q in
          let z = g.fits.0 in
          inr (record { value = a; ok = g.fits.1; at = at; rest = c; whole = record { same = g.whole ∙ ap (λ (rs : List (List ℕ)). flat rs ++ c) z; place = g.place ∙ ap (λ (rs : List (List ℕ)). from + length (flat rs)) z }; stops = e })

module _ {A S : Type 0} (next : S → A → S) where
  -- what is known after some
  abbrev pub known_after : S → List A → S
  known_after s [] = s
  known_after s (x ∷ xs) = known_after (next s x) xs

module _ {A S : Type 0} (p : S → Reader A) (next : S → A → S) (R : A → List (List ℕ)) (Ok : S → A → Type 0) (law : (s : S) → Format (p s) R (Ok s)) where
  abbrev turned : ℕ → S → A → Reader (List A)
  turned n s a = many p next n (next s a) then (λ xs. got (a ∷ xs))

  pub many_past : (n : ℕ) (s : S) (xs : List A) → AllOk p next R Ok s xs → length xs < n → {from : ℕ} {b : List ℕ} {at : ℕ} {c : List ℕ} → Whole (flat (map R xs)) from b at c →
      (r : Refusal) → p (known_after next s xs) at c ≡ stop r → many p next n s from b ≡ stop r
  many_past zero s xs h l w r e = absurd (omega arith)
  many_past (suc n) s [] h l {from} w r e =
      let z = w.place ∙ add-zero from in
      ap (λ x. follow x (turned n s)) ((λ i. p s (sym z i) (w.same i)) ∙ e)
  many_past (suc n) s (x ∷ xs) h l w r e =
      let v = whole_next (R x) (flat (map R xs)) w in
      then_past (law s) (turned n s) x h.0 (whole_first (R x) (flat (map R xs)) w)
      ∙ ap (λ y. follow y (λ ys. got (x ∷ ys))) (many_past n (next s x) xs h.1 (omega arith) v r e)

  -- fewer than n are past, and the next stops
  pub record Among (n : ℕ) (s : S) (from : ℕ) (b : List ℕ) (r : Refusal) : Type 0 where
    pub done : List A
    pub fewer : length done < n
    pub ok : AllOk p next R Ok s done
    pub at : ℕ
    pub rest : List ℕ
    pub whole : Whole (flat (map R done)) from b at rest
    pub stops : p (known_after next s done) at rest ≡ stop r

  pub many_stops : (n : ℕ) (s : S) (from : ℕ) (b : List ℕ) (r : Refusal) → Bytes b → many p next n s from b ≡ stop r → Among n s from b r
  many_stops zero s from b r y e = cc
  many_stops (suc n) s from b r y e = go (λ t m c. many_stops n t m c r) (then_stops (law s) (turned n s) from b r y e)
    where
      go : ((t : S) (m : ℕ) (c : List ℕ) → Bytes c → many p next n t m c ≡ stop r → Among n t m c r) → (p s from b ≡ stop r) ⊎ Beyond (law s) (turned n s) from b r → Among (suc n) s from b r
      go on (inl q) = record { done = []; fewer = omega arith; ok = tt; at = from; rest = b; whole = record { same = refl; place = sym (add-zero from) }; stops = q }
      go on (inr t) =
          let a = t.value in
          let m = on (next s a) t.at t.rest (bytes_after (flat (R a)) t.rest (subst Bytes t.whole.same y)) (last_stops (λ xs. a ∷ xs) (many p next n (next s a) t.at t.rest) r t.stops) in
          record { done = a ∷ m.done; fewer = omega (arith, m.fewer); ok = (t.ok, m.ok); at = m.at; rest = m.rest; whole = whole_both t.whole m.whole; stops = m.stops }
