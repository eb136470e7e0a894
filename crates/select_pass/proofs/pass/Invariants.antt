use Prim.Native.Nat.{ℕ, ◌-◌}
use Rattle.rules.specs.Lists.{held}
use Rattle.multiway_sweep.specs.Steps.{whole}
use Rattle.multiway_pass.specs.Pieces.{waiting}
use Rattle.multiway_pass.specs.Outputs.{columns_of, Same}
use Rattle.multiway_pass.proofs.Walks.{Going}
use Rattle.select_pass.proofs.Selects.{Selecting, selection}
use Rattle.select_pass.proofs.pass.Given as goal

abbrev pub invariant-loop : goal.invariant-loop
invariant-loop g l =
    let w = g.P.Integer.width in
    (p : ℕ)
    × Selecting w (held l.lent) (whole l.sweep) l.selection (l.end - l.counter) p
    × Going (selection w l.admission (held l.lent) l.write (columns_of l.fn.out)) (columns_of l.out) (waiting l.pending) l.count p
    × Same l.fn.out l.out
