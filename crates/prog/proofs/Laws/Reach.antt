-- The reach: what it is, and the reach of programs put together.
use Rattle.std.specs.Prelude.{ℕ, ◌+◌, ◌-◌, ◌≤◌, ◌<◌, max, ◌≡◌, refl, ◌⊎◌, true, false, List, [], ◌∷◌, ◌++◌, length, take, drop}
use Rattle.std.proofs.Common.{arith, subst, sym, inl, inr, ⊎_elim}
use Rattle.std.proofs.Math.Decide.{dec_le}
use Rattle.base.specs.Laws.{clash}
use Rattle.window.specs.Window.{can_read}
use Rattle.window.specs.Laws.{Inside}
use Rattle.prog.specs.Prog.{Answer, failed, got, Prog, done, read, unshown, ◌>>=◌, also, map_p, fetch, aside, answer, run, Span, taken, trace, Takes, end_of, reach}
use Rattle.prog.proofs.Laws.Read.{inside_or_failed}
use Rattle.prog.proofs.Laws.Run.{trace_done, trace_failed, trace_got, trace_bind, trace_map, trace_also, trace_aside}

-- ---- the end of the bytes taken

-- no byte is taken at or past the end
pub takes_end : (t : List Span) (i : ℕ) → Takes t i → i < end_of t
unfolding Takes end_of
takes_end [] i h = absurd h
takes_end (s ∷ t) i (inl h) = omega arith
takes_end (s ∷ t) i (inr h) = let l = takes_end t i h in omega arith

-- every read takes a byte
unfoldable pub Filled : List Span → Type 0
Filled [] = Unit {0}
Filled (s ∷ t) = (0 < s.size) × Filled t

-- then the byte before the end is taken, if any is
pub end_last : (t : List Span) → Filled t → (end_of t ≡ 0) ⊎ Takes t (end_of t - 1)
unfolding Takes end_of Filled
end_last [] h = inl refl
end_last (s ∷ t) h = go (dec_le (end_of t) (s.offset + s.size)) (end_last t h.1)
  where
    go : Dec (end_of t ≤ s.offset + s.size) → (end_of t ≡ 0) ⊎ Takes t (end_of t - 1) → (end_of (s ∷ t) ≡ 0) ⊎ Takes (s ∷ t) (end_of (s ∷ t) - 1)
    go (yes l) i =
        let m : max (s.offset + s.size) (end_of t) ≡ s.offset + s.size = omega arith in
        let z : 0 < s.size = h.0 in
        inr (subst (λ (e : ℕ). Takes (s ∷ t) (e - 1)) (sym m) (inl (omega arith)))
    go (no l) (inl e) = absurd (omega arith)
    go (no l) (inr i) =
        let m : max (s.offset + s.size) (end_of t) ≡ end_of t = omega arith in
        inr (subst (λ (e : ℕ). Takes (s ∷ t) (e - 1)) (sym m) (inr i))

-- what a successful read takes lies within the end, and so does what follows
pub end_here : (w : Answer) (s : Span) (t : List Span) (bs : List ℕ) → w ≡ got bs → s.offset + s.size ≤ end_of (taken w s t)
unfolding end_of
end_here failed s t bs e = clash (cc)
end_here (got cs) s t bs e = omega arith

pub end_there : (w : Answer) (s : Span) (t : List Span) → end_of t ≤ end_of (taken w s t)
unfolding end_of
end_there failed s t = omega arith
end_there (got bs) s t = omega arith

end_most : (w : Answer) (s : Span) (t : List Span) (m : ℕ) → (w ≡ failed) ⊎ (s.offset + s.size ≤ m) → end_of t ≤ m → end_of (taken w s t) ≤ m
unfolding end_of
end_most failed s t m h r = r
end_most (got bs) s t m (inl e) r = clash (cc)
end_most (got bs) s t m (inr h) r = omega arith

end_append : (s t : List Span) → end_of (s ++ t) ≡ max (end_of s) (end_of t)
unfolding end_of
end_append [] t = omega arith
end_append (r ∷ s) t = let e = end_append s t in omega arith

-- ---- the reach of a program

-- no shown read takes a byte past the image
pub reach_length : {A : Type 0} (p : Prog A) (x : List ℕ) → reach p x ≤ length x
unfolding trace end_of
reach_length (done a) x = omega arith
reach_length (read base a n k) x =
    let w = answer x base a n in
    end_most w (record { offset = a - base; size = n }) (trace (k w) x) (length x)
    (⊎_elim (λ (i : Inside x base a n). inr (omega arith)) inl (inside_or_failed x base a n)) (reach_length (k w) x)
reach_length (unshown r p) x = reach_length p x

pub reach_done : {A : Type 0} (x : List ℕ) (a : A) → reach (done a) x ≡ 0
unfolding end_of
reach_done x a = rw (trace_done x a)

module _ {A : Type 0} (x : List ℕ) (base a n : ℕ) (e : A) (k : List ℕ → Prog A) where
  pub reach_failed : can_read x base a n ≡ false → reach (fetch base a n e k) x ≡ 0
  unfolding end_of
  reach_failed h = rw (trace_failed x base a n e k h)

  pub reach_got : can_read x base a n ≡ true → reach (fetch base a n e k) x ≡ max (a - base + n) (reach (k (take n (drop (a - base) x))) x)
  unfolding end_of
  reach_got h = rw (trace_got x base a n e k h)

module _ {A B : Type 0} (x : List ℕ) where
  pub reach_bind : (p : Prog A) (f : A → Prog B) → reach (p >>= f) x ≡ max (reach p x) (reach (f (run p x)) x)
  reach_bind p f = rw (trace_bind x p f) (end_append (trace p x) (trace (f (run p x)) x))

  pub reach_also : (p : Prog A) (f : A → Prog B) → reach (also p f) x ≡ max (reach p x) (reach (f (run p x)) x)
  reach_also p f = rw (trace_also x p f) (end_append (trace p x) (trace (f (run p x)) x))

  pub reach_map : (f : A → B) (p : Prog A) → reach (map_p f p) x ≡ reach p x
  reach_map f p = rw (trace_map x f p)

  pub reach_aside : (p : Prog B) (q : Prog A) → reach (aside p q) x ≡ reach q x
  reach_aside p q = rw (trace_aside x p q)
