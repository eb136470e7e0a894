-- What callers know of what a value stands for, beside the contracts. Assumes nothing.
use Prim.Native.Nat.{ℕ, ◌<◌}
use mathlib.Core.Path.{◌≡◌, sym, ◌∙◌}
use mathlib.Core.Bool.{Bool, false}
use Rattle.std.specs.declared.option.Option.{Option}
use Rattle.std.specs.declared.option.Option.TheVariants.{None, Some}
use lib.ListN.{replicate, get_or-replicate}
use Rattle.active_lists.specs.Active.{Set, nobody, but, number, Alike, IsHighest, Active, members, Stands}
use Rattle.active_lists.proofs.Sets.{but_same, number_same}

-- a value stands for every set that has the same of the sixteen
pub stands_same : {a : Active} {f g : Set} → Stands a f → Alike f g → Stands a g
stands_same s h = record { same = λ i l. sym (h i l) ∙ s.same i l }

pub stands_idle : Stands (replicate 16 false) nobody
stands_idle = record { same = λ i l. sym (get_or-replicate 16 i false false l) }

module _ {a : Active} {f : Set} (s : Stands a f) where
  -- one list becomes active or inactive
  pub stands_but : {b : Active} (list : ℕ) (x : Bool) → Alike (members b) (but (members a) list x) → Stands b (but f list x)
  stands_but list x h = record { same = λ i l. but_same s.same list x i l ∙ sym (h i l) }

  pub member : (list : ℕ) → list < 16 → {b : Bool} → f list ≡ b → members a list ≡ b
  member list l e = sym (s.same list l) ∙ e

  pub number_of : number (members a) ≡ number f
  number_of = sym (number_same f (members a) s.same)

  pub highest_of : (r : Option ℕ) → IsHighest (members a) r → IsHighest f r
  highest_of None h = λ i l. s.same i l ∙ h i l
  highest_of (Some list) h =
      record { small = h.small; inside = s.same list h.small ∙ h.inside; above = λ i l e. h.above i l (member i l e) }
