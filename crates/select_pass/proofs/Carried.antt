-- What the lists have as a selection holds it: what it says of it, and how an event changes it. Assumes nothing.
use Prim.Native.Nat.{ℕ, ◌+◌, ◌≤◌, ◌<◌}
use mathlib.Core.Path.{◌≡◌, refl, sym, ap, ◌∙◌}
use mathlib.Core.Bool.{Bool, true, true≢false, cond, ◌&&◌}
use Rattle.std.specs.declared.option.Option.{Option}
use Rattle.std.specs.declared.option.Option.TheVariants.{None, Some}
use native.Mathlib.Decide.{ℕ_discrete}
use native.Mathlib.Omega.{arith}
use lib.Dec.{ltb}
use lib.IntN.{ℤ, pos}
use lib.ListN.{length, get_or, set, length-set}
use lib.Seq.{get_or-set_same, get_or-set_other}
use Rattle.rules.specs.Piece.{present, there}
use Rattle.many_way_rules.specs.Selections.{admitted, picked}
use Rattle.many_way_rules.specs.declared.Admission.{Admission}
use Rattle.many_way_rules.specs.declared.Pick.TheVariants.{Highest}
use Rattle.many_way_rules.proofs.Selections.{by_number, admitted_number, highest_none, highest_exactly}
use Rattle.active_lists.specs.Active.{Active, Stands, Alike, members, with, without, has, number, IsHighest}
use Rattle.active_lists.specs.Kept.{Fields, seen}
use Rattle.active_lists.proofs.Sets.{number_present, has_set, has_none, has_last}
use Rattle.active_lists.proofs.Stands.{stands_same, stands_but, number_of, highest_of}
use Rattle.multiway_sweep.specs.declared.Event.{Event}
use Rattle.multiway_sweep.specs.declared.Event.TheVariants.{End}
use Rattle.select_pass.specs.Stretches.{starts_after}
use Rattle.select_pass.specs.Selections.{Held, Carried, Unchanged, Takes, chosen}
use Rattle.select_pass.specs.declared.Selection.{Selection}

-- a list that has something has a value
something : (o : Option ℤ) → there o ≡ true → (v : ℤ) × (o ≡ Some v)
something None e = absurd (true≢false (sym e))
something (Some v) e = (v, refl)

-- how many lists are active
module _ (act : Held) (few : length act ≤ 16) {active : Active} (s : Stands active (has act)) where
  pub active_number : number (members active) ≡ length (present act)
  active_number = number_of s ∙ number_present act few

  -- a point is admitted by it
  pub by_active : (a : Admission) → by_number a (length act) (number (members active)) ≡ admitted a act
  by_active a = rw active_number (admitted_number a act)

module _ (a : Admission) {s : Selection} {act : Held} (k : Carried s act) {b : Bool} (e : b ≡ admitted a act) (h : b ≡ true) where
  chosen_is : picked Highest act ≡ chosen a act
  chosen_is = rw (sym e ∙ h)

  pub kept_none : IsHighest (members (seen s.active)) None → None ≡ chosen a act
  kept_none f = sym ((highest_none act).1 (has_none act k.few (highest_of k.stands None f))) ∙ chosen_is

  pub kept_top : {list : ℕ} → IsHighest (members (seen s.active)) (Some list) → Some (get_or s.current list (pos 0)) ≡ chosen a act
  kept_top {list} f =
      let t = highest_of k.stands (Some list) f in
      let o = something (get_or act list None) t.inside in
      ap Some (k.values list o.0 o.1) ∙ sym ((highest_exactly act o.0).1 (record { place = list; there = o.1; later = has_last act k.few list t })) ∙ chosen_is

-- what is unchanged has what it had, and takes an event so
module _ {s t : Selection} (u : Unchanged s t) where
  pub carried_on : {act : Held} → Carried s act → Carried t act
  carried_on k = record { few = k.few; long = ap length u.current ∙ k.long; stands = rw u.active k.stands; values = rw u.current k.values }

  pub takes_on : (e : Event) (greatest : ℕ) {r : Selection} → Takes (Some e) greatest t r → Takes (Some e) greatest s r
  takes_on e greatest h act k f = h act (carried_on k) f

-- a list begins with a value
pub began : {s : Selection} {act : Held} → Carried s act → {list : ℕ} → list < length act → {active : Fields} → Alike (members (seen active)) (with (members (seen s.active)) list) → {v u : ℤ} → u ≡ v → (start : Option ℕ) → Carried (record { current = set s.current list u; active = active; stretch_start = start }) (set act list (Some v))
began {s} {act} k {list} l h {v} {u} q start =
    record {
      few = omega (arith, length-set act list (Some v), k.few);
      long = length-set s.current list u ∙ k.long;
      stands = stands_same (stands_but k.stands list _ h) (has_set act list (Some v) l);
      values = λ i w e.
          elim (ℕ_discrete i list) [
            | yes p ↦
                let m : get_or (set act list (Some v)) list None ≡ Some v = get_or-set_same act list (Some v) None l in
                let n : v ≡ w = cc in
                rw p (get_or-set_same s.current list u (pos 0) (omega (arith, k.few, k.long)) ∙ q ∙ n)
            | no n ↦ get_or-set_other s.current list i u (pos 0) n ∙ k.values i w (sym (get_or-set_other act list i (Some v) None n) ∙ e)
          ];
    }

-- a list that has something ends
module _ {s : Selection} {act : Held} (k : Carried s act) {list : ℕ} (l : list < length act) {active : Fields} (h : Alike (members (seen active)) (without (members (seen s.active)) list)) where
  pub ended : (start : Option ℕ) → Carried (record { current = s.current; active = active; stretch_start = start }) (set act list None)
  ended start =
      record {
        few = omega (arith, length-set act list None, k.few);
        long = k.long;
        stands = stands_same (stands_but k.stands list _ h) (has_set act list None l);
        values = λ i w e.
            elim (ℕ_discrete i list) [
              | yes p ↦
                  let m : get_or (set act list None) list None ≡ None = get_or-set_same act list None None l in
                  let z : ◌≡◌ {A = ℕ} 0 1 = cc in
                  absurd (omega arith)
              | no n ↦ k.values i w (sym (get_or-set_other act list i None None n) ∙ e)
            ];
      }

  -- so many lists are active then
  pub end_taken : (at greatest : ℕ) {n : ℕ} → n ≡ number (members (seen active)) → {b : Bool} → (ltb 0 n && ltb at greatest) ≡ b → {start : Option ℕ} → start ≡ cond b (Some (at + 1)) None → let after = set act list None in Carried (record { current = s.current; active = active; stretch_start = start }) after × (start ≡ starts_after (End at list) (length (present after)) greatest)
  end_taken at greatest q p {start} e = let c = ended start in (c, rw (← q ∙ active_number (set act list None) c.few c.stands, p) e)
