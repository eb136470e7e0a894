-- What an accepted file lends: lists that the library refuses for nothing. Assumes nothing.
use Prim.Native.Nat.{ℕ}
use mathlib.Core.Path.{◌≡◌, ◌∙◌}
use mathlib.Core.List.{List}
use lib.IntN.{ℤ}
use Rattle.std.specs.declared.result.Result.TheVariants.{Ok}
use Rattle.rules.specs.Lists.{instants}
use Rattle.rules.specs.Answer.{judge}
use Rattle.rules.specs.Refusals.{Formed}
use Rattle.rules.proofs.Refusals.{sound_formed}
use Rattle.many_way_rules.specs.Sheet.{Tariff, flat, lend}
use Rattle.tariff_file.specs.Layout.{Bytes}
use Rattle.tariff_file.specs.File.{Head, accepted, read, Sound}
use Rattle.tariff_file.proofs.Read.{ordered_sound, ends_below, flat_held, accepted_written}
use Rattle.tariff_file.proofs.Columns.{kind_of, file_judged}

-- a file's bytes, and the head and the lists that are read of them
pub record Accepted (b : List ℕ) (h : Head) (ls : List (Tariff ℤ)) : Type 0 where
  pub bytes : Bytes b
  pub reading : read b ≡ accepted h ls

module _ {b : List ℕ} {h : Head} {ls : List (Tariff ℤ)} (a : Accepted b h ls) where
  pub sound : Sound h ls
  sound = (accepted_written b h ls a.bytes a.reading).1

  pub judged : judge instants (kind_of sound.task h.combiner) (lend ls) ≡ Ok tt
  judged = file_judged h ls sound ∙ ordered_sound ls (accepted_written b h ls a.bytes a.reading).2

  pub formed_lists : Formed instants (kind_of sound.task h.combiner) (lend ls)
  formed_lists = sound_formed instants (kind_of sound.task h.combiner) (lend ls) (ends_below (flat ls) (flat_held ls sound.all_held) (instants.point 0)) judged
