-- Columns that are lent on stay the same ones. Assumes nothing.
use mathlib.Core.Path.{refl, ◌∙◌}
use Rattle.two_way_pass.specs.Columns.{Same}
use Rattle.two_way_pass.specs.declared.Columns.{Columns}

module _ {P : Type 0} where
  pub same : (c : Columns P) → Same c c
  same c = record { start = refl; end = refl; left = refl; right = refl; presence = refl }

  -- columns that two calls lend on
  pub same_again : {c d e : Columns P} → Same d e → Same c d → Same c e
  same_again q p = record {
    start = q.start ∙ p.start;
    end = q.end ∙ p.end;
    left = q.left ∙ p.left;
    right = q.right ∙ p.right;
    presence = q.presence ∙ p.presence;
  }
