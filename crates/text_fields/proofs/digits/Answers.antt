-- `digits` meets its contract. Assumes nothing.
use Prim.Native.Nat.{◌+◌, ◌-◌}
use mathlib.Core.Path.{◌≡◌}
use native.Mathlib.Omega.{arith}
use native.Mathlib.Numerals.{add-one}
use native.Mathlib.Nat.{pow-suc}
use Rattle.answer_text.proofs.Numbers.{decimal_long}
use Rattle.text_fields.proofs.digits.Goals as goal

pub returns-in-Some : goal.returns-in-Some
returns-in-Some c =
    let t = c.in-Some.tens in
    let e = c.in-Some.ensures in
    let back : t + 1 - 1 ≡ t = omega arith in
    (decimal_long (t + 1) c.args.n (omega arith, rw (add-one t, pow-suc) (omega (arith, e.next_power_gt)), λ h. rw back e.power_le), omega arith)

pub returns-in-None : goal.returns-in-None
returns-in-None c = (decimal_long 1 c.args.n (omega arith, omega (arith, c.in-None.ensures.none), λ h. absurd (omega arith)), omega arith)
