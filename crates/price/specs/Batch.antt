-- The prices at many points, and the columns that they are written to: value and presence. Assumes nothing.
use Rattle.std.specs.Prelude.{ℕ, List, [], ◌∷◌, ℤ, length}
use Rattle.rules.specs.Lists.{Width, MutColumn, MutColumns}
use Rattle.rules.specs.Answer.{Outcome, settle, least, laid}
use Rattle.rules.specs.Merged.{Merged}
use Rattle.std.specs.declared.result.Result.TheVariants.{Ok}
use Rattle.price.specs.Reading.{price_at, pence, presence}

pub record Priced : Type 0 where
  pub value : List ℤ
  pub presence : List ℕ

-- the columns before and after a call
abbrev pub output : MutColumn ℤ → MutColumn ℕ → Priced
output v p = record { value = v.now; presence = p.now }

abbrev pub before : MutColumns ℤ → MutColumns ℕ → Priced
before v p = output v.entry p.entry

abbrev pub after : MutColumns ℤ → MutColumns ℕ → Priced
after v p = output v.exit p.exit

abbrev pub room : Priced → ℕ
room d = least (length d.value ∷ length d.presence ∷ [])

module _ {P : Type 0} (w : Width P) (c : Merged P) (n : ℕ) where
  -- the columns with the prices at some points from place k on
  abbrev pub lay : ℕ → List P → Priced → Priced
  lay k ps d =
      record {
        value = laid k (λ p. pence (price_at w c n (w.key p))) ps d.value;
        presence = laid k (λ p. presence (price_at w c n (w.key p))) ps d.presence;
      }

  -- a row for each point at the front of the columns, where there is room for all
  unfoldable pub prices_at : List P → Priced → Outcome Priced
  unfolding price_at
  prices_at ps d = settle (Ok tt) (length ps) (room d) d (lay 0 ps d)
