-- `form::add_up` meets its contract. Assumes nothing.
use mathlib.Core.Path.{refl}
use native.Mathlib.Omega.{arith}
use Rattle.std.proofs.lemmas.Grind.{common_steps}
use Rattle.std.proofs.lemmas.List.Recursion.{is_sum_by}
use Rattle.rules.specs.Lists.{total}
use Rattle.form.proofs.add_up.Goals as goal

pub returns : goal.returns
returns c =
    let e = is_sum_by total (λ x. x) refl (λ _ _. refl) c.args.counts.now in
    grind (arith, common_steps, e)
