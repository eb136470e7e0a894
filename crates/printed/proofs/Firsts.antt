-- The first n of what stands in places are the front of a list. Assumes nothing.
use Prim.Native.Nat.{ℕ, zero, suc, ◌≤◌, ◌<◌}
use mathlib.Core.Path.{◌≡◌, refl, sym, ap, ◌∙◌}
use mathlib.Core.List.{List, [], ◌∷◌, ◌++◌, map, map-append}
use native.Mathlib.Omega.{arith}
use lib.ListN.{length, get_or, take}
use lib.Seq.{take-suc, take-length}
use Rattle.answer_text.specs.Answers.{firsts}

-- at each place what g makes of the list's there
firsts_front : {A B : Type 0} (g : A → B) (f : ℕ → B) (l : List A) (d : A) (n : ℕ) → n ≤ length l → ((i : ℕ) → i < n → f i ≡ g (get_or l i d)) → firsts f n ≡ map g (take n l)
firsts_front g f l d zero h e = refl
firsts_front {B = B} g f l d (suc n) h e =
    (λ j. firsts_front g f l d n (omega arith) (λ i b. e i (omega arith)) j ++ (e n (omega arith) j ∷ []))
    ∙ sym (map-append g (take n l) (get_or l n d ∷ []))
    ∙ ap (map g) (sym (take-suc l n d (omega arith)))

pub firsts_map : {A B : Type 0} (g : A → B) (f : ℕ → B) (l : List A) (d : A) → ((i : ℕ) → i < length l → f i ≡ g (get_or l i d)) → firsts f (length l) ≡ map g l
firsts_map g f l d e = firsts_front g f l d (length l) (omega arith) e ∙ ap (map g) (take-length l)
