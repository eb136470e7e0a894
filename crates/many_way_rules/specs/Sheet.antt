-- The boundary sheet's proved rows: what each operation is to write, beside what it writes. Assumes nothing.
use Rattle.std.specs.Prelude.{ℕ, List, [], ◌∷◌, ◌++◌, map, ℤ, pos, negsuc, length, replicate}
use Rattle.std.specs.declared.option.Option.{Option}
use Rattle.std.specs.declared.option.Option.TheVariants.{None, Some}
use Rattle.std.specs.declared.result.Result.TheVariants.{Ok, Err}
use Rattle.rules.specs.Lists.{Width, Lent, seats, instants}
use Rattle.rules.specs.Answer.{Outcome}
use Rattle.rules.specs.Merged.{Merged}
use Rattle.rules.specs.Paired.{Paired}
use Rattle.rules.specs.Listed.{Listed}
use Rattle.rules.specs.Outcomes.{pairing, listing}
use Rattle.rules.specs.declared.Refusal.TheVariants.{Backward, Overlap, NoRoom}
use Rattle.rules.specs.declared.Pairing.{Pairing}
use Rattle.rules.specs.declared.Pairing.TheVariants.{Inner, Left, Full}
use Rattle.many_way_rules.specs.Operations.{inner, full, union, symmetric_difference}
use Rattle.many_way_rules.specs.Outcomes.{merging}
use Rattle.many_way_rules.specs.declared.Operation.{Operation}

-- [start..end:value]
pub record Typed (P A : Type 0) : Type 0 where
  pub start : P
  pub end : P
  pub value : A

abbrev pub Tariff : Type 0 → Type 0
Tariff P = List (Typed P ℤ)

-- lists as they are lent
abbrev pub flat : {A : Type 0} → List (List A) → List A
flat [] = []
flat (l ∷ ls) = l ++ flat ls

abbrev pub lend : {P : Type 0} → List (Tariff P) → Lent P
lend ls = record { starts = map (λ x. x.start) (flat ls); ends = map (λ x. x.end) (flat ls); values = map (λ x. x.value) (flat ls); counts = map length ls }

-- what is shown of a side: its value, or none, which is written as 0
abbrev pub shown : Option ℤ → ℤ
shown None = pos 0
shown (Some v) = v

abbrev pub bits : Option ℤ × Option ℤ → ℕ
bits (None, None) = 0
bits (Some v, None) = 1
bits (None, Some v) = 2
bits (Some v, Some u) = 3

pub data Result (P : Type 0) : Type 0 where
  merges : Outcome (Merged P) → Result P
  pairs : Outcome (Paired P) → Result P
  lists : Outcome (Listed P) → Result P

-- an operation's outcome, and the outcome that the sheet gives
pub record Row (P : Type 0) : Type 0 where
  pub got : Result P
  pub want : Result P

module _ {P : Type 0} (w : Width P) where
  -- in the columns given
  abbrev pub merge_into : Operation → List (Tariff P) → Merged P → Outcome (Merged P) → Row P
  merge_into o ls before left = record { got = merges (merging w o (lend ls) before); want = merges left }

  abbrev pub pair_into : Pairing → List (Tariff P) → Paired P → Outcome (Paired P) → Row P
  pair_into o ls before left = record { got = pairs (pairing w o (lend ls) before); want = pairs left }

  abbrev pub list_into : List (Tariff P) → Listed P → Outcome (Listed P) → Row P
  list_into ls before left = record { got = lists (listing w (lend ls) before); want = lists left }

  -- in columns with room for just the pieces that are to be written
  abbrev pub merge_row : Operation → List (Tariff P) → Tariff P → Row P
  merge_row o ls xs =
      let n = length xs in
      let blank = replicate n (w.point 0) in
      merge_into o ls (record { start = blank; end = blank; value = replicate n (pos 0) })
      (record { answer = Ok n; columns = record { start = map (λ x. x.start) xs; end = map (λ x. x.end) xs; value = map (λ x. x.value) xs } })

  abbrev pub pair_row : Pairing → List (Tariff P) → List (Typed P (Option ℤ × Option ℤ)) → Row P
  pair_row o ls xs =
      let n = length xs in
      let blank = replicate n (w.point 0) in
      let zeros = replicate n (pos 0) in
      pair_into o ls (record { start = blank; end = blank; left = zeros; right = zeros; presence = replicate n 0 })
      (record { answer = Ok n; columns = record { start = map (λ x. x.start) xs; end = map (λ x. x.end) xs; left = map (λ x. shown x.value.0) xs; right = map (λ x. shown x.value.1) xs; presence = map (λ x. bits x.value) xs } })

  -- the rows of a width whose points have the numbers `at`, from the least to the greatest
  module _ (at : ℕ → P) (least greatest : P) where
    abbrev pub typed : {A : Type 0} → ℕ → ℕ → A → Typed P A
    typed a b v = record { start = at a; end = at b; value = v }

    abbrev pub one_in_two : List (Tariff P)
    one_in_two = (typed 1 10 (pos 100) ∷ []) ∷ (typed 3 4 (pos 7) ∷ typed 5 6 (pos 7) ∷ []) ∷ []

    abbrev pub shared_end : List (Tariff P)
    shared_end = (typed 1 5 (pos 100) ∷ []) ∷ (typed 5 9 (pos 20) ∷ []) ∷ []

    -- columns of unequal lengths, with something in each place
    abbrev pub three_points : List P
    three_points = at 7 ∷ at 8 ∷ at 9 ∷ []

    abbrev pub merge_columns : Merged P
    merge_columns = record { start = at 6 ∷ three_points; end = three_points; value = pos 1 ∷ pos 2 ∷ pos 3 ∷ pos 4 ∷ pos 5 ∷ [] }

    abbrev pub pair_columns : Paired P
    pair_columns = record { start = at 6 ∷ three_points; end = three_points; left = pos 1 ∷ pos 2 ∷ pos 3 ∷ []; right = pos 4 ∷ pos 5 ∷ pos 6 ∷ pos 7 ∷ []; presence = 8 ∷ 9 ∷ [] }

    abbrev pub list_columns : Listed P
    list_columns = record { kind = 2 ∷ 3 ∷ 4 ∷ 5 ∷ 6 ∷ []; point = at 5 ∷ at 6 ∷ three_points; list = 7 ∷ 8 ∷ 9 ∷ 10 ∷ 11 ∷ 12 ∷ []; value = pos 13 ∷ pos 14 ∷ pos 15 ∷ pos 16 ∷ [] }

    abbrev pub rows : List (Row P)
    rows =
        pair_row Inner one_in_two (typed 3 4 (Some (pos 100), Some (pos 7)) ∷ typed 5 6 (Some (pos 100), Some (pos 7)) ∷ [])
        ∷ merge_row (inner 1) one_in_two (typed 3 6 (pos 107) ∷ [])
        ∷ pair_row Left one_in_two (typed 1 2 (Some (pos 100), None) ∷ typed 3 4 (Some (pos 100), Some (pos 7)) ∷ typed 5 6 (Some (pos 100), Some (pos 7)) ∷ typed 7 10 (Some (pos 100), None) ∷ [])
        ∷ pair_row Full shared_end (typed 1 4 (Some (pos 100), None) ∷ typed 5 5 (Some (pos 100), Some (pos 20)) ∷ typed 6 9 (None, Some (pos 20)) ∷ [])
        ∷ merge_row union shared_end (typed 1 4 (pos 100) ∷ typed 5 9 (pos 20) ∷ [])
        ∷ merge_row symmetric_difference shared_end (typed 1 4 (pos 100) ∷ typed 6 9 (pos 20) ∷ [])
        ∷ merge_row (inner 1) ((typed 1 5 (pos 10) ∷ typed 6 9 (pos 11) ∷ []) ∷ (typed 1 9 (pos 1) ∷ []) ∷ []) (typed 1 5 (pos 11) ∷ typed 6 9 (pos 12) ∷ [])
        ∷ merge_row (inner 1) [] (record { start = least; end = greatest; value = pos 0 } ∷ [])
        ∷ merge_row (full 1) [] []
        ∷ merge_row (inner 1) ((typed 1 5 (pos 10) ∷ []) ∷ [] ∷ []) []
        ∷ merge_row (full 1) ((typed 1 2 (pos 5) ∷ typed 4 5 (pos 5) ∷ []) ∷ []) (typed 1 2 (pos 5) ∷ typed 4 5 (pos 5) ∷ [])
        ∷ merge_row (full 1) ((typed 1 2 (pos 5) ∷ typed 3 4 (pos 5) ∷ []) ∷ []) (typed 1 4 (pos 5) ∷ [])
        ∷ merge_row (full 5) ((typed 1 5 (negsuc 2) ∷ []) ∷ (typed 1 5 (pos 0) ∷ []) ∷ []) (typed 1 5 (negsuc 0) ∷ [])
        -- the events of a shared end, and what later places had
        ∷ list_into shared_end list_columns
        (record {
          answer = Ok 4;
          columns = record { kind = 0 ∷ 0 ∷ 1 ∷ 1 ∷ 6 ∷ []; point = at 1 ∷ at 5 ∷ at 5 ∷ at 9 ∷ at 9 ∷ []; list = 0 ∷ 1 ∷ 0 ∷ 1 ∷ 11 ∷ 12 ∷ []; value = pos 100 ∷ pos 20 ∷ pos 0 ∷ pos 0 ∷ [] };
        })
        ∷ merge_into union shared_end merge_columns
        (record { answer = Ok 2; columns = record { start = at 1 ∷ at 5 ∷ at 8 ∷ at 9 ∷ []; end = at 4 ∷ at 9 ∷ at 9 ∷ []; value = pos 100 ∷ pos 20 ∷ pos 3 ∷ pos 4 ∷ pos 5 ∷ [] } })
        -- refusals leave every column
        ∷ pair_into Full shared_end pair_columns (record { answer = Err (NoRoom 3); columns = pair_columns })
        ∷ list_into ((typed 1 5 (pos 1) ∷ typed 3 2 (pos 1) ∷ []) ∷ []) list_columns (record { answer = Err (Backward 1); columns = list_columns })
        ∷ merge_into (full 1) ((typed 1 5 (pos 1) ∷ typed 5 9 (pos 1) ∷ []) ∷ []) merge_columns (record { answer = Err (Overlap 1); columns = merge_columns })
        ∷ []

abbrev pub seat : ℕ → ℕ → ℤ → Typed ℕ ℤ
seat a b v = record { start = a; end = b; value = v }

abbrev pub seat_rows : List (Row ℕ)
seat_rows =
    merge_row seats (inner 1) ((seat 4294967290 4294967295 (pos 5) ∷ []) ∷ (seat 4294967295 4294967295 (pos 6) ∷ []) ∷ []) (seat 4294967295 4294967295 (pos 11) ∷ [])
    ∷ rows seats (λ n. n) 0 4294967295

abbrev pub instant_rows : List (Row ℤ)
instant_rows = rows instants (λ n. pos n) (negsuc 9223372036854775807) (pos 9223372036854775807)
