-- An operation that goes over its lists once, or twice where it has to count first. Assumes nothing.
use Rattle.std.specs.Prelude.{ℕ, ◌≤◌, ◌<◌, Bool, true, false}
use Rattle.std.specs.declared.result.Result.TheVariants.{Ok, Err}
use Rattle.rules.specs.Answer.{Answer}
use Rattle.rules.specs.declared.Refusal.TheVariants.{NoRoom}

-- the passes are calls that lead from state to state: most is the most pieces that there can be
module _ {F : Type 0} (Step : F → Bool → ℕ → F → Type 0) (most room : ℕ) where
  -- each pass can be made: one that writes at once where the room is sure to do, else one that counts, and one that writes where the room does then
  pub record Runnable (Pre : F → Bool → Type 0) (f : F) : Type 0 where
    pub sure : most ≤ room → Pre f true
    pub counts : room < most → Pre f false
    pub again : {n : ℕ} {g : F} → Step f false n g → n ≤ room → Pre g true

  -- the passes that were made, and what was answered
  pub data Ran (f g : F) : Answer → Type 0 where
    at_once : {n : ℕ} → most ≤ room → Step f true n g → Ran f g (Ok n)
    lacks : {n : ℕ} → Step f false n g → room < n → Ran f g (Err (NoRoom n))
    twice : {n m : ℕ} {h : F} → Step f false n h → n ≤ room → Step h true m g → Ran f g (Ok m)
