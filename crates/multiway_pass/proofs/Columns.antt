-- Columns that take pieces from a place on. Assumes nothing.
use Prim.Native.Nat.{ℕ, ◌+◌, ◌≤◌, ◌<◌}
use mathlib.Core.Path.{◌≡◌, refl, sym, ap, ◌∙◌}
use mathlib.Core.Bool.{Bool, true, false}
use Rattle.std.specs.declared.option.Option.{Option}
use Rattle.std.specs.declared.option.Option.TheVariants.{Some}
use mathlib.Core.List.{List, [], ◌∷◌, ◌++◌, map, append_assoc}
use native.Mathlib.Omega.{arith}
use native.Mathlib.Numerals.{add-one}
use lib.IntN.{ℤ}
use lib.ListN.{length, take, drop, set, length-append, length-map}
use lib.Seq.{take_at, drop-append-add, drop-drop, set_split, length-take-le}
use Rattle.rules.specs.Piece.{Piece as PieceOf, Range}
use Rattle.rules.specs.Lists.{Width}
use Rattle.rules.specs.Answer.{least, laid}
use Rattle.rules.specs.Merged.{Merged, lengths, room, lay}
use Rattle.rules.specs.Proving.Long.{Long}
use Rattle.rules.proofs.Fronts.{laid_nothing, laid_long}
use Rattle.multiway_pass.specs.Pieces.{piece_of, waiting}
use Rattle.multiway_pass.specs.Passes.{lay_if, PutPieces}
use Rattle.multiway_pass.specs.declared.Piece.{Piece}

-- what columns C with pieces of value B have to do with each other: lay n xs c is c with xs from place n on
pub record Takes {B C : Type 0} (lengths : C → List ℕ) (lay : ℕ → List (PieceOf B) → C → C) : Type 0 where
  pub nothing : (n : ℕ) (c : C) → lay n [] c ≡ c
  pub append : (n : ℕ) (xs ys : List (PieceOf B)) (c : C) → n + length (xs ++ ys) ≤ least (lengths c) → lay (n + length xs) ys (lay n xs c) ≡ lay n (xs ++ ys) c
  pub keeps : (n : ℕ) (xs : List (PieceOf B)) (c : C) → n + length xs ≤ least (lengths c) → Long (lengths (lay n xs c)) (lengths c)

long_same : (ns : List ℕ) → Long ns ns
long_same [] = tt
long_same (n ∷ ns) = (refl, long_same ns)

-- the same where they are written, and where they are not
module _ {B C : Type 0} {lengths : C → List ℕ} {lay : ℕ → List (PieceOf B) → C → C} (t : Takes lengths lay) (n : ℕ) where
  pub if_nothing : (write : Bool) (c : C) → lay_if lay write n [] c ≡ c
  if_nothing true c = t.nothing n c
  if_nothing false c = refl

  pub if_append : (write : Bool) (xs ys : List (PieceOf B)) (c : C) → (write ≡ true → n + length (xs ++ ys) ≤ least (lengths c)) → lay_if lay write (n + length xs) ys (lay_if lay write n xs c) ≡ lay_if lay write n (xs ++ ys) c
  if_append true xs ys c h = t.append n xs ys c (h refl)
  if_append false xs ys c h = refl

  pub if_keeps : (write : Bool) (xs : List (PieceOf B)) (c : C) → (write ≡ true → n + length xs ≤ least (lengths c)) → Long (lengths (lay_if lay write n xs c)) (lengths c)
  if_keeps true xs c h = t.keeps n xs c (h refl)
  if_keeps false xs c h = long_same (lengths c)

module _ {A R : Type 0} (f : R → A) (n : ℕ) where
  map_append : (xs ys : List R) → map f (xs ++ ys) ≡ map f xs ++ map f ys
  map_append [] ys = refl
  map_append (x ∷ xs) ys = ap (λ l. f x ∷ l) (map_append xs ys)

  -- what is laid after pieces is laid with them
  laid_append : (xs ys : List R) (l : List A) → n + length (xs ++ ys) ≤ length l → laid (n + length xs) f ys (laid n f xs l) ≡ laid n f (xs ++ ys) l
  laid_append xs ys l h =
      let m = n + length xs in
      let p = take n l ++ map f xs in
      let s : length p ≡ m = length-append (take n l) (map f xs) ∙ (rw (length-map xs f, length-take-le n l (omega (arith, length-append xs ys)))) in
      let e : m + length ys ≡ n + length (xs ++ ys) = omega (arith, length-append xs ys) in
      let q : drop (m + length ys) (p ++ drop m l) ≡ drop (n + length (xs ++ ys)) l = ap (λ k. drop (k + length ys) (p ++ drop m l)) (sym s) ∙ drop-append-add p (drop m l) (length ys) ∙ drop-drop (length ys) m l ∙ ap (λ k. drop k l) e in
      rw (← append_assoc (take n l) (map f xs) (drop m l)) (rw (take_at p (drop m l) m s, q, append_assoc, map_append) (rw append_assoc))

  laid_one : (r : R) (l : List A) → n < length l → set l n (f r) ≡ laid n f (r ∷ []) l
  laid_one r l h = set_split l n (f r) h ∙ rw add-one

-- columns of starts, ends and values
module _ {P : Type 0} (w : Width P) where
  abbrev start_of : Range → P
  start_of x = w.point x.start

  abbrev end_of : Range → P
  end_of x = w.point x.end

  abbrev value_of : Range → ℤ
  value_of x = x.value

  pub merged_takes : Takes lengths (lay w)
  merged_takes =
      record {
        nothing = λ n c i. record { start = laid_nothing start_of n c.start i; end = laid_nothing end_of n c.end i; value = laid_nothing value_of n c.value i };
        append = λ n xs ys c h i. record { start = laid_append start_of n xs ys c.start (omega arith) i; end = laid_append end_of n xs ys c.end (omega arith) i; value = laid_append value_of n xs ys c.value (omega arith) i };
        keeps = λ n xs c h. (laid_long start_of n xs c.start (omega arith), (laid_long end_of n xs c.end (omega arith), (laid_long value_of n xs c.value (omega arith), tt)));
      }

-- what `put` does, with a piece that is written or is not
module _ {P : Type 0} (w : Width P) {write : Bool} {n : ℕ} {p : Option Piece} (c d : Merged P) {x : Piece} (h : p ≡ Some x) where
  pub put_not : write ≡ false → c ≡ d → PutPieces (lay w) write n (waiting p) c d (n + 1)
  put_not e q = rw (e, h) (record { count = refl; is = sym q })

  pub put_done : write ≡ true → n < room c → {v : ℤ} → v ≡ x.value → d.start ≡ set c.start n (w.point x.start) → d.end ≡ set c.end n (w.point x.end) → d.value ≡ set c.value n v → PutPieces (lay w) write n (waiting p) c d (n + 1)
  put_done t l q a b z =
      rw (t, h)
      (record {
        count = refl;
        is = λ i. record {
          start = (a ∙ laid_one (start_of w) n (piece_of x) c.start (omega arith)) i;
          end = (b ∙ laid_one (end_of w) n (piece_of x) c.end (omega arith)) i;
          value = (z ∙ ap (set c.value n) q ∙ laid_one (value_of w) n (piece_of x) c.value (omega arith)) i;
        };
      })
