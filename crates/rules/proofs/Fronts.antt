-- Columns that are written from a place on: what they hold, place by place, and one piece more. Assumes nothing.
use Prim.Native.Nat.{ℕ, zero, suc, ◌+◌, ◌-◌, ◌≤◌, ◌<◌}
use mathlib.Core.Path.{◌≡◌, refl, sym, ap, ◌∙◌}
use mathlib.Core.List.{List, [], ◌∷◌, map, ◌++◌, append_assoc}
use native.Mathlib.Omega.{arith}
use native.Mathlib.Nat.{add-zero}
use native.Mathlib.Numerals.{add-one}
use lib.ListN.{length, get_or, take, drop, set, length-append, length-take, length-drop, length-map, take-append-drop, get_or-append}
use lib.Seq.{take-suc, drop-cons, set_at, length-take-le, get_or-append-add, get_or-take, get_or-drop}
use Rattle.rules.specs.Answer.{least, laid}
use Rattle.rules.specs.Proving.Long.{Long}

-- a list of which what is left past n starts with x
module _ {R : Type 0} (l : List R) (n : ℕ) (x : R) (xs : List R) (e : drop n l ≡ x ∷ xs) where
  pub drop_lt : n < length l
  drop_lt = omega (arith, sym (length-drop n l) ∙ ap length e)

  split : get_or l n x ∷ drop (suc n) l ≡ x ∷ xs
  split = sym (drop-cons l n x drop_lt) ∙ e

  pub drop_more : drop (n + 1) l ≡ xs
  drop_more = let h = split in rw add-one (cc)

  take_more : take (n + 1) l ≡ take n l ++ (x ∷ [])
  take_more = let h = split in let g : get_or l n x ≡ x = cc in rw (add-one, take-suc l n x drop_lt, g)

pub drop_none : {R : Type 0} (l : List R) (n : ℕ) → drop n l ≡ [] → length l ≤ n
drop_none l n e = omega (arith, sym (length-drop n l) ∙ ap length e)

module _ {R A : Type 0} (f : R → A) where
  map_snoc : (rs : List R) (r : R) → map f (rs ++ (r ∷ [])) ≡ map f rs ++ (f r ∷ [])
  map_snoc [] r = refl
  map_snoc (x ∷ xs) r = ap (λ (l : List A). f x ∷ l) (map_snoc xs r)

  map_at : (rs : List R) (i : ℕ) (d : A) (r : R) → i < length rs → get_or (map f rs) i d ≡ f (get_or rs i r)
  map_at [] i d r h = absurd (omega arith)
  map_at (x ∷ xs) zero d r h = refl
  map_at (x ∷ xs) (suc i) d r h = map_at xs i d r (omega arith)

  module _ (from : ℕ) where
    -- one piece more
    pub laid_snoc : (rs : List R) (r : R) (old : List A) (n : ℕ) → length rs ≡ n → from + n < length old → set (laid from f rs old) (from + n) (f r) ≡ laid from f (rs ++ (r ∷ [])) old
    laid_snoc rs r old n z h =
        let p : length (take from old ++ map f rs) ≡ from + n = length-append (take from old) (map f rs) ∙ (rw (length-map rs f, z, length-take-le from old (omega arith))) in
        let q : from + length (rs ++ (r ∷ [])) ≡ suc (from + n) = omega (arith, length-append rs (r ∷ []), z) in
        rw (z, q, map_snoc rs r, append_assoc, drop-cons old (from + n) (f r) h, ← append_assoc (take from old) (map f rs) (get_or old (from + n) (f r) ∷ drop (suc (from + n)) old))
        (set_at (take from old ++ map f rs) (get_or old (from + n) (f r)) (drop (suc (from + n)) old) (f r) (from + n) p ∙ append_assoc (take from old) (map f rs) (f r ∷ drop (suc (from + n)) old))

    pub laid_long : (rs : List R) (old : List A) → from + length rs ≤ length old → length (laid from f rs old) ≡ length old
    laid_long rs old h = simp (length-append, length-take, length-map, length-drop) (omega arith)

    pub laid_more : (l : List R) (n : ℕ) (x : R) (xs : List R) (old : List A) → drop n l ≡ x ∷ xs → from + length l ≤ length old → set (laid from f (take n l) old) (from + n) (f x) ≡ laid from f (take (n + 1) l) old
    laid_more l n x xs old e h =
        rw (take_more l n x xs e) (laid_snoc (take n l) x old n (length-take-le n l (omega (arith, drop_lt l n x xs e))) (omega (arith, drop_lt l n x xs e)))

    -- the places before and after the pieces keep what they had, and each piece stands in its place
    module _ (rs : List R) (old : List A) (h : from + length rs ≤ length old) where
      before_long : length (take from old) ≡ from
      before_long = length-take-le from old (omega arith)

      past_before : (i : ℕ) (d : A) → get_or (laid from f rs old) (from + i) d ≡ get_or (map f rs ++ drop (from + length rs) old) i d
      past_before i d = let q = get_or-append-add (take from old) (map f rs ++ drop (from + length rs) old) i d in rw before_long at q

      pub laid_before : (j : ℕ) (d : A) → j < from → get_or (laid from f rs old) j d ≡ get_or old j d
      laid_before j d l = get_or-append (take from old) _ d j (omega (arith, before_long)) ∙ get_or-take from old j d l

      pub laid_at : (i : ℕ) (d : A) (r : R) → i < length rs → get_or (laid from f rs old) (from + i) d ≡ f (get_or rs i r)
      laid_at i d r l = past_before i d ∙ get_or-append (map f rs) _ d i (omega (arith, length-map rs f)) ∙ map_at rs i d r l

      pub laid_after : (j : ℕ) (d : A) → from + length rs ≤ j → get_or (laid from f rs old) j d ≡ get_or old j d
      laid_after j d l =
          let k = j - (from + length rs) in
          let p : from + (length (map f rs) + k) ≡ j = omega (arith, length-map rs f) in
          let q : (from + length rs) + k ≡ j = omega arith in
          ap (λ m. get_or (laid from f rs old) m d) (sym p) ∙ past_before (length (map f rs) + k) d ∙ get_or-append-add (map f rs) _ k d ∙ get_or-drop (from + length rs) old k d ∙ ap (λ m. get_or old m d) q

    -- nothing laid leaves the column
    pub laid_nothing : (old : List A) → laid from f [] old ≡ old
    laid_nothing old = rw add-zero (take-append-drop from old)

-- columns of the same lengths have the same room
pub same_room : (ms ns : List ℕ) → Long ms ns → least ms ≡ least ns
same_room [] [] l = refl
same_room [] (n ∷ ns) l = absurd l
same_room (m ∷ ms) [] l = absurd l
same_room (m ∷ []) (n ∷ []) l = l.0
same_room (m ∷ []) (n ∷ k ∷ ks) l = absurd l.1
same_room (m ∷ j ∷ js) (n ∷ []) l = absurd l.1
same_room (m ∷ j ∷ js) (n ∷ k ∷ ks) l = rw (l.0, same_room (j ∷ js) (k ∷ ks) l.1)
