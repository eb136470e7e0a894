-- The boundary sheet: each table is computed at once, and so each of its rows holds. Assumes nothing.
use mathlib.Core.Path.{◌≡◌, refl, sym, ap, ◌∙◌}
use mathlib.Core.Logic.{⊎_elim}
use mathlib.Core.List.Memᴰ
use mathlib.Core.List.{List, [], ◌∷◌, map, Memᴰ, head-eq_of_cons-eq, tail-eq_of_cons-eq}
use Prim.Native.Nat.{ℕ}
use lib.IntN.{ℤ}
use Rattle.rules.specs.Lists.{key64, point64}
use Rattle.rules.specs.Outcomes.{pairing, listing}
use Rattle.many_way_rules.specs.Outcomes.{merging}
use Rattle.many_way_rules.specs.Sheet.{Row, Result, seat_rows, instant_rows}

abbrev pub Computed : {P : Type 0} → List (Row P) → Type 0
Computed {P} rows = ◌≡◌ {A = List (Result P)} (map (λ r. r.got) rows) (map (λ r. r.want) rows)

pub row_holds : {P : Type 0} (rows : List (Row P)) → Computed rows → (r : Row P) → Memᴰ r rows → r.got ≡ r.want
row_holds [] e r m = absurd (Memᴰ.not-nil m)
row_holds (x ∷ xs) e r m =
    ⊎_elim
    (λ q. ap (λ s. s.got) q ∙ head-eq_of_cons-eq e ∙ sym (ap (λ s. s.want) q))
    (λ i. row_holds xs (tail-eq_of_cons-eq e) r i)
    (Memᴰ.cases_cons m)

seats_computed : Computed seat_rows
unfolding merging pairing listing key64 point64
seats_computed = refl

instants_computed : Computed instant_rows
unfolding merging pairing listing key64 point64
instants_computed = refl

pub seat_row : (r : Row ℕ) → Memᴰ r seat_rows → r.got ≡ r.want
seat_row = row_holds seat_rows seats_computed

pub instant_row : (r : Row ℤ) → Memᴰ r instant_rows → r.got ≡ r.want
instant_row = row_holds instant_rows instants_computed
