-- `file_records::rest::Rest::record_at` meets its contract. Assumes nothing.
use Prim.Native.Nat.{◌-◌}
use native.Mathlib.Omega.{arith}
use lib.ListN.{length, drop, length-drop}
use Rattle.std.proofs.lemmas.List.{take_all}
use Rattle.file_records.proofs.Records.{one_short, one_first, one_second, one_cut, one_there}
use Rattle.file_records.proofs.rest.Rest.record_at.Goals as goal
use Rattle.file_records.proofs.rest.Rest.record_at.Goals.{then-bytes-ne-MARK-via-then-bytes-ne-MARK, then-bytes-ne-MARK-via-else-bytes-ne-MARK+then-bytes-second}

pub returns-then-bytes-lt2-clause-marked : goal.returns-then-bytes-lt2-clause-marked
returns-then-bytes-lt2-clause-marked c = λ l asked m k z. one_short l asked _ _ (omega arith)

pub returns-then-bytes-ne-MARK-clause-marked : goal.returns-then-bytes-ne-MARK-clause-marked
returns-then-bytes-ne-MARK-clause-marked c = λ l asked m k z.
    elim c.then-bytes-ne-MARK.branch [
      | then-bytes-ne-MARK-via-then-bytes-ne-MARK w ↦ one_first l asked _ _ (omega arith) (omega (arith, w.if-bytes-ne-MARK.true))
      | then-bytes-ne-MARK-via-else-bytes-ne-MARK+then-bytes-second w ↦ one_second l asked _ _ (omega arith) (omega (arith, w.if-bytes-ne-MARK.false)) (omega (arith, w.if-bytes-second.true))
    ]

pub returns-then-bytes-size-clause-marked : goal.returns-then-bytes-size-clause-marked
returns-then-bytes-size-clause-marked c = λ l asked m k z. one_cut l asked _ _ (omega arith) (omega arith) (omega arith) (omega arith)

pub returns-clause-marked : goal.returns-clause-marked
returns-clause-marked c = λ l asked m k z.
    let b = c.args.self.bytes.now in
    let e = take_all (length b - c.args.size) (drop c.args.size b) (omega (arith, length-drop c.args.size b)) in
    rw (e, ← z) (one_there l asked _ _ (omega arith) (omega arith) (omega arith) (omega arith))
