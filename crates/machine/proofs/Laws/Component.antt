-- A component of a machine: some of its calls, the component's own, and a part of its state. It gets, in any history, the replies that its own calls,
-- in their order, would have had by themselves, and its part ends alike.
-- Assumes nothing.
use Rattle.std.specs.Prelude.{◌≡◌, refl, Bool, List}
use Rattle.std.proofs.Common.{◌∙◌}
use Rattle.machine.specs.Machine.{Machine, state_after, replies, calls_of, replies_of}
use Rattle.machine.specs.Laws.Component.{Component}
use Rattle.machine.proofs.Laws.Follow.{Follows, follow_replies, follow_after}

module _ {C S R P : Type 0} {m : Machine C S R} {own : C → Bool} {part : S → P} (k : Component m own part) where
  -- it follows itself, from states that have the part in common
  follows_itself : Follows m m own (λ s t. part s ≡ part t)
  follows_itself = record {
    others_keep = λ c s t e a. k.others_leave c s e ∙ a;
    same_reply = λ c s t e a. k.reply_by_part c s t e a;
    own_keep = λ c s t e a. k.next_by_part c s t e a;
  }

  pub component_replies : (s : S) (cs : List C) → replies_of own cs (replies m s cs) ≡ replies m s (calls_of own cs)
  component_replies s cs = follow_replies follows_itself s s cs refl

  pub component_part : (s : S) (cs : List C) → part (state_after m s cs) ≡ part (state_after m s (calls_of own cs))
  component_part s cs = follow_after follows_itself s s cs refl
