-- `fill` meets its contract: the courses of the lists passed are laid. Assumes nothing.
use native.Mathlib.Omega.{arith}
use Rattle.multiway_sweep.proofs.Filled.{laid_none, laid_within, laid_empty, laid_push, filled}
use Rattle.multiway_sweep.proofs.fill.Goals as goal
use Rattle.multiway_sweep.proofs.fill.Goals.{then-from-stop, else-from-stop}

pub loop-k-init : goal.loop-k-init
loop-k-init g c = laid_none _ _ c.requires.0 c.requires.1 c.told-courses c.new.ensures

pub overflow_add-stop : goal.overflow_add-stop
overflow_add-stop g c = let l = laid_within _ _ c.loop-k.invariant c.loop-k-test.true in omega arith

pub key_at-key-requires : goal.key_at-key-requires
key_at-key-requires g c = let l = laid_within _ _ c.loop-k.invariant c.loop-k-test.true in omega arith

pub loop-k-preserved : goal.loop-k-preserved
loop-k-preserved g c =
    elim c.if-from-stop.branch [
      | then-from-stop w ↦ rw w.starts-is (laid_push _ _ c.loop-k.invariant c.loop-k-test.true w.if-from-stop.true w.key_at-key.ensures.is w.push.ensures)
      | else-from-stop w ↦ rw w.starts-is (laid_empty _ _ c.loop-k.invariant c.loop-k-test.true w.if-from-stop.false)
    ]

pub returns : goal.returns
returns g c idle empty = filled _ c.loop-k.invariant c.loop-k-test.false empty
