-- Two calls of a two-way operation over the same starts, ends and counts, whatever the values: their answers, starts, ends and presences are the same. Assumes nothing.
use mathlib.Core.Path.{◌≡◌, sym, subst₂}
use Rattle.rules.specs.Lists.{Width, Lent}
use Rattle.rules.specs.Answer.{Outcome}
use Rattle.rules.specs.Paired.{Paired}
use Rattle.rules.specs.Outcomes.{pairing}
use Rattle.rules.specs.declared.Pairing.{Pairing}
use Rattle.rules.proofs.TwoWay.{SameRanges, Alike, AlikeOutcomes, values_alter_nothing}

pub calls_alike : {P : Type 0} (w : Width P) (o : Pairing) (l l' : Lent P) (c c' : Paired P) (first second : Outcome (Paired P)) → first ≡ pairing w o l c → second ≡ pairing w o l' c' → SameRanges l l' → Alike c c' → AlikeOutcomes first second
calls_alike w o l l' c c' first second p q ranges alike = subst₂ AlikeOutcomes (sym p) (sym q) (values_alter_nothing w o l l' c c' ranges alike)
