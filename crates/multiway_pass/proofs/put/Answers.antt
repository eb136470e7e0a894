-- `multiway_pass::put` meets its contract. Assumes nothing.
use mathlib.Core.Path.{refl}
use native.Mathlib.Omega.{arith}
use mir.Syntax.{w64}
use Rattle.integer.proofs.Laws.{back}
use Rattle.multiway_pass.specs.Outputs.{columns_of}
use Rattle.multiway_pass.proofs.Columns.{put_not, put_done}
use Rattle.multiway_pass.proofs.put.Goals as goal
use Rattle.multiway_pass.proofs.put.Goals.{then-write, else-write}

pub returns : goal.returns
returns g c =
    let w = g.P.Integer.width in
    let before = columns_of c.args.out.now in
    let q = rw c.in-Some.is at c.requires in
    elim c.if-write.branch [
      | then-write s ↦
          rw s.out-is
          (record {
            same = record { start = refl; end = refl; value = refl };
            put = put_done w before _ c.in-Some.is s.if-write.true (omega (arith, q.roomy s.if-write.true)) (back w64 _ (omega arith)) s.put_key.ensures s.put_key-then-write.ensures refl;
          })
      | else-write s ↦ rw s.out-is (record { same = record { start = refl; end = refl; value = refl }; put = put_not w before _ c.in-Some.is s.if-write.false refl })
    ]
