-- What the lists have, as a selection holds it, and what it says of a stretch. Assumes nothing.
use Rattle.std.specs.Prelude.{ℕ, ◌≤◌, ◌<◌, ◌≡◌, Bool, true, false, List, [], ◌∷◌, ℤ, pos, length, get_or, replicate}
use Rattle.std.specs.declared.option.Option.{Option}
use Rattle.std.specs.declared.option.Option.TheVariants.{None, Some}
use Rattle.rules.specs.Piece.{Range, there, present}
use Rattle.many_way_rules.specs.Selections.{admitted}
use Rattle.many_way_rules.specs.Operations.{rule_of}
use Rattle.many_way_rules.specs.declared.Admission.{Admission}
use Rattle.many_way_rules.specs.declared.Operation.TheVariants.{Select}
use Rattle.many_way_rules.specs.declared.Pick.TheVariants.{Highest}
use Rattle.active_lists.specs.Active.{Active, Stands, has}
use Rattle.active_lists.specs.Kept.{seen}
use Rattle.multiway_sweep.specs.Front.{apply}
use Rattle.multiway_sweep.specs.Steps.{event_of}
use Rattle.multiway_sweep.specs.declared.Range.{Range as Span}
use Rattle.multiway_sweep.specs.declared.Event.{Event}
use Rattle.multiway_sweep.specs.declared.Event.TheVariants.{Start, End}
use Rattle.select_pass.specs.Stretches.{starts_after}
use Rattle.select_pass.specs.declared.Selection.{Selection}

-- what the lists have
abbrev pub Held : Type 0
Held = List (Option ℤ)

-- the lists that have something are active, and their values stand in their places
pub record Carried (s : Selection) (act : Held) : Type 0 where
  pub few : length act ≤ 16
  pub long : length s.current ≡ 16
  pub stands : Stands (seen s.active) (has act)
  pub values : (i : ℕ) (v : ℤ) → get_or act i None ≡ Some v → get_or s.current i (pos 0) ≡ v

-- before the first event
pub record Blank (s : Selection) : Type 0 where
  pub current : s.current ≡ replicate 16 (pos 0)
  pub active : seen s.active ≡ replicate 16 false
  pub start : s.stretch_start ≡ None

-- t has what s has; how the set of active lists is kept may differ
pub record Unchanged (s t : Selection) : Type 0 where
  pub current : t.current ≡ s.current
  pub active : seen t.active ≡ seen s.active
  pub start : t.stretch_start ≡ s.stretch_start

-- r is whether what so many lists have is admitted
abbrev pub Keeps : Admission → ℕ → Active → Bool → Type 0
Keeps a lists active r = (act : Held) → length act ≤ 16 → Stands active (has act) → length act ≡ lists → r ≡ admitted a act

-- a selection's rule
abbrev pub chosen : Admission → Held → Option ℤ
chosen a act = rule_of (Select Highest a) act

-- r is what it says of what so many lists have
abbrev pub Says : Admission → ℕ → Selection → Option ℤ → Type 0
Says a lists s r = (act : Held) → Carried s act → length act ≡ lists → r ≡ chosen a act

-- the piece of a stretch of which o is said, if there is one
abbrev pub recorded : Option ℤ → Option Span → List Range
recorded o None = []
recorded None (Some x) = []
recorded (Some v) (Some x) = record { start = x.start; end = x.end; value = v } ∷ []

-- xs are the pieces of a stretch, one or none
abbrev pub Emits : Admission → ℕ → Selection → Option Span → List Range → Type 0
Emits a lists s stretch xs = (act : Held) → Carried s act → length act ≡ lists → xs ≡ recorded (chosen a act) stretch

-- an event of one of the lists: a start finds it with nothing, an end with something
abbrev pub Fits : Event → Held → Type 0
Fits (Start r list v) act = (list < length act) × (get_or act list None ≡ None)
Fits (End key list) act = (list < length act) × (there (get_or act list None) ≡ true)

abbrev pub Due : Selection → Option Event → Type 0
Due s None = (act : Held) × Carried s act
Due s (Some e) = (act : Held) × Carried s act × Fits e act

-- what the lists have after it; the next stretch starts by how many lists are active then, and nowhere where nothing is left
abbrev pub Takes : Option Event → ℕ → Selection → Selection → Type 0
Takes None greatest s t = (act : Held) → Carried s act → Carried t act × (t.stretch_start ≡ None)
Takes (Some e) greatest s t =
    (act : Held) → Carried s act → Fits e act →
    let after = apply (event_of e) act in Carried t after × (t.stretch_start ≡ starts_after e (length (present after)) greatest)
