-- The columns of two-way rows. Assumes nothing.
use Rattle.std.specs.Prelude.{ℤ}
use Rattle.rules.specs.Paired.{Paired, columns}
use Rattle.text_pairs.specs.declared.Pairs.{Pairs}

abbrev pub columns_of : Pairs → Paired ℤ
columns_of p = columns p.start.now p.end.now p.left.now p.right.now p.presence.now
