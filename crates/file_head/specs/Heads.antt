-- What a head asks for: what its operation does, and how many lists follow. Assumes nothing.
use Rattle.std.specs.Prelude.{ℕ, ◌≤◌, ◌≡◌, List}
use Rattle.std.specs.declared.option.Option.TheVariants.{None, Some}
use Rattle.std.specs.declared.result.Result.{Result}
use Rattle.std.specs.declared.result.Result.TheVariants.{Ok, Err}
use Rattle.tariff_file.specs.Reader.{stop, got, one}
use Rattle.tariff_file.specs.File.{head_layout, task_of, asked_of, head_fault}
use Rattle.tariff_file.specs.declared.Refusal.{Refusal}
use Rattle.tariff_file.specs.declared.Task.{Task}
use Rattle.file_records.specs.declared.rest.Rest.{Rest}
use Rattle.file_head.specs.declared.Head.{Head}

-- 13, 1, 2, 7 of a head at the file's start
abbrev pub Judges : ℕ → ℕ → ℕ → Result Task Refusal → Type 0
Judges o c n (Ok k) = (task_of o ≡ Some k) × (asked_of (task_of o) c n ≡ None) × (n ≤ 16)
Judges o c n (Err x) = (f : ℕ → Refusal) × (asked_of (task_of o) c n ≡ Some f) × (x ≡ f 0)

pub record Headed (file : List ℕ) (h : Head) (rest : Rest) : Type 0 where
  pub known : task_of h.operation ≡ Some h.task
  pub few : h.lists ≤ 16
  pub read : one head_layout head_fault 0 file ≡ got (h.operation, (h.combiner, (h.lists, tt))) rest.at rest.bytes.now

abbrev pub Opens : List ℕ → Result (Head × Rest) Refusal → Type 0
Opens file (Ok (h, rest)) = Headed file h rest
Opens file (Err x) = one head_layout head_fault 0 file ≡ stop x
