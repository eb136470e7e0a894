-- A list of tariff structs is judged as it is in columns, alone, and is sound exactly when it is well formed. Assumes nothing.
use Prim.Native.Nat.{ℕ, ◌≤◌, ◌<◌}
use mathlib.Core.Path.{◌≡◌}
use mathlib.Core.List.{List, [], ◌∷◌, map}
use lib.ListN.{length}
use Rattle.std.specs.declared.option.Option.TheVariants.{None}
use Rattle.std.specs.declared.result.Result.TheVariants.{Ok}
use Rattle.rules.specs.Piece.{WellFormed}
use Rattle.rules.specs.Lists.{seats, keys}
use Rattle.rules.specs.Answer.{Judgement, judge_list}
use Rattle.rules.specs.declared.Kind.TheVariants.{Listing}
use Rattle.form.specs.Shape.{Judged}
use Rattle.tariffs.proofs.Alone as any
use Rattle.guineatwirl_check_seat.specs.Pieces.{pieces}
use Rattle.guineatwirl_check_seat.specs.declared.Tariff.{Tariff}

module _ (ys : List Tariff) where
  -- what `form::judge` answers for the columns, and what `judge_tariffs` answers for the structs
  pub alone : length ys ≤ 2048 → {c r : Judgement} → Judged seats Listing (record { starts = map (λ t. t.start) ys; ends = map (λ t. t.end) ys; values = map (λ t. t.value) ys; counts = length ys ∷ [] }) c → r ≡ judge_list None (pieces ys) → r ≡ c
  alone = any.judged_alone seats (λ t. t.start) (λ t. t.end) (λ t. t.value) ys

  pub sound_formed : ((i : ℕ) → i < length ys → keys seats (map (λ t. t.end) ys) i < seats.points) → judge_list None (pieces ys) ≡ Ok tt → WellFormed seats.points (pieces ys)
  sound_formed = any.sound_formed seats (λ t. t.start) (λ t. t.end) (λ t. t.value) ys

  pub formed_sound : WellFormed seats.points (pieces ys) → judge_list None (pieces ys) ≡ Ok tt
  formed_sound = any.formed_sound seats (λ t. t.start) (λ t. t.end) (λ t. t.value) ys
