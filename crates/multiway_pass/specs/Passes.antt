-- What a pass over the stretches promises: that all pieces are laid into the columns from a place on, where they are written, and which place comes after them. Assumes nothing.
use Rattle.std.specs.Prelude.{ℕ, ◌+◌, ◌≤◌, ◌<◌, ◌^◌, ◌≡◌, Bool, true, cond, List, length}
use Rattle.rules.specs.Piece.{Piece, Within}
use Rattle.rules.specs.Lists.{Width, Lent, lists}
use Rattle.rules.specs.Refusals.{Formed}
use Rattle.rules.specs.Merged.{Merged, room}
use Rattle.many_way_rules.specs.Operations.{kind_of, merged}
use Rattle.many_way_rules.specs.declared.Operation.{Operation}

-- pieces of any value can be put from place n on: they lie among the points, there is room for them where they are written, and they can be counted
pub record Puttable {B : Type 0} (points room : ℕ) (write : Bool) (n : ℕ) (xs : List (Piece B)) : Type 0 where
  pub within : Within 0 points xs
  pub roomy : write ≡ true → n + length xs ≤ room
  pub few : n + length xs < 2 ^ 64

-- columns of any kind with pieces from place n on, where they are written
abbrev pub lay_if : {B C : Type 0} → (ℕ → List (Piece B) → C → C) → Bool → ℕ → List (Piece B) → C → C
lay_if lay write n xs c = cond write (lay n xs c) c

-- pieces are put there: the columns before and after, and the place after them
pub record PutPieces {B C : Type 0} (lay : ℕ → List (Piece B) → C → C) (write : Bool) (n : ℕ) (xs : List (Piece B)) (c d : C) (r : ℕ) : Type 0 where
  pub count : r ≡ n + length xs
  pub is : d ≡ lay_if lay write n xs c

module _ {P : Type 0} (w : Width P) (o : Operation) where
  -- lists that the form checker passed, at least one, and room for all pieces where they are written
  pub record Mergeable (l : Lent P) (write : Bool) (c : Merged P) : Type 0 where
    pub formed : Formed w (kind_of o) l
    pub lists_some : 0 < length l.counts
    pub roomy : write ≡ true → length (merged o w.points (lists w l)) ≤ room c
