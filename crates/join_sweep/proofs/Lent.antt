-- Parts and places that are lent on, and on. Assumes nothing.
use mathlib.Core.Path.{◌≡◌, refl, ◌∙◌}
use Rattle.multiway_sweep.specs.Sweeps.{Same as Parts}
use Rattle.join_sweep.specs.Stretches.{Same}
use Rattle.join_sweep.specs.declared.JoinSweep.{JoinSweep}
use Rattle.join_sweep.specs.declared.JoinSweepMut.{JoinSweepMut}

pub same_first : {j : JoinSweepMut} → Same j j
same_first = record { sweep = record { courses = refl; starts = refl; active_ends = refl }; current = refl; present = refl }

pub same_then : {i j k : JoinSweepMut} → Same i j → Same j k → Same i k
same_then s t =
    record {
      sweep = record { courses = t.sweep.courses ∙ s.sweep.courses; starts = t.sweep.starts ∙ s.sweep.starts; active_ends = t.sweep.active_ends ∙ s.sweep.active_ends };
      current = t.current ∙ s.current;
      present = t.present ∙ s.present;
    }

-- a step of the sweep keeps them
pub same_step : {i j k : JoinSweepMut} → Same i j → Parts j.sweep k.sweep → k.current.ghost_name ≡ j.current.ghost_name → k.present.ghost_name ≡ j.present.ghost_name → Same i k
same_step s p u v = same_then s (record { sweep = p; current = u; present = v })

-- so does what is no array
pub same_state : {i j : JoinSweepMut} → Same i j → (t : JoinSweep) → Same i (record { sweep = j.sweep; state = t; current = j.current; present = j.present })
same_state s t = record { sweep = s.sweep; current = s.current; present = s.present }
