-- One machine that follows another on some of its calls: whatever the other calls do, the replies to these are the other machine's.
-- Assumes nothing.
use Rattle.std.specs.Prelude.{◌≡◌, refl, Bool, true, false, List, [], ◌∷◌}
use Rattle.std.proofs.Common.{ap₂}
use Rattle.base.specs.Choice.{pick}
use Rattle.machine.specs.Machine.{Machine, state_after, replies, calls_of, replies_of}

-- Between a state of the one and a state of the other there is a relation, which every call keeps. An own call gets the same reply in both.
pub record Follows {C S T R : Type 0} (m : Machine C S R) (by_itself : Machine C T R) (own : C → Bool) (Alike : S → T → Type 0) : Type 0 where
  pub others_keep : (c : C) (s : S) (t : T) → own c ≡ false → Alike s t → Alike (m.next c s) t
  pub same_reply : (c : C) (s : S) (t : T) → own c ≡ true → Alike s t → m.reply c s ≡ by_itself.reply c t
  pub own_keep : (c : C) (s : S) (t : T) → own c ≡ true → Alike s t → Alike (m.next c s) (by_itself.next c t)

module _ {C S T R : Type 0} {m : Machine C S R} {by_itself : Machine C T R} {own : C → Bool} {Alike : S → T → Type 0} (f : Follows m by_itself own Alike) where
  pub follow_replies : (s : S) (t : T) (cs : List C) → Alike s t → replies_of own cs (replies m s cs) ≡ replies by_itself t (calls_of own cs)
  unfolding replies replies_of calls_of
  follow_replies s t [] a = refl
  follow_replies s t (c ∷ cs) a = go (own c) refl (λ u b. follow_replies (m.next c s) u cs b)
    where
      go : (b : Bool) → own c ≡ b → ((u : T) → Alike (m.next c s) u → replies_of own cs (replies m (m.next c s) cs) ≡ replies by_itself u (calls_of own cs))
          → pick b (m.reply c s ∷ replies_of own cs (replies m (m.next c s) cs)) (replies_of own cs (replies m (m.next c s) cs)) ≡ replies by_itself t (pick b (c ∷ calls_of own cs) (calls_of own cs))
      go false e rest = rest t (f.others_keep c s t e a)
      go true e rest = ap₂ (λ r rs. r ∷ rs) (f.same_reply c s t e a) (rest (by_itself.next c t) (f.own_keep c s t e a))

  pub follow_after : (s : S) (t : T) (cs : List C) → Alike s t → Alike (state_after m s cs) (state_after by_itself t (calls_of own cs))
  unfolding state_after calls_of
  follow_after s t [] a = a
  follow_after s t (c ∷ cs) a = go (own c) refl (λ u b. follow_after (m.next c s) u cs b)
    where
      go : (b : Bool) → own c ≡ b → ((u : T) → Alike (m.next c s) u → Alike (state_after m (m.next c s) cs) (state_after by_itself u (calls_of own cs)))
          → Alike (state_after m (m.next c s) cs) (state_after by_itself t (pick b (c ∷ calls_of own cs) (calls_of own cs)))
      go false e rest = rest t (f.others_keep c s t e a)
      go true e rest = rest (by_itself.next c t) (f.own_keep c s t e a)
