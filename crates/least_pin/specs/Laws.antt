-- The least of the pins, compared in pairs.
-- Assumes nothing.
use Rattle.std.specs.Prelude.{ℕ, zero, suc, min, ◌≤◌, ◌<◌, ◌≡◌, refl, Bool, true, false, List, [], ◌∷◌, ltb, length, get_or, drop}
use Rattle.std.proofs.Common.{not-suc-le-zero, le_of_suc-le-suc, arith, sym, ap, ◌∙◌, drop_of_length-le, drop-cons, ltb-true, ltb-false, lt-ltb, le-ltb}
use Rattle.base.specs.Choice.{pick}
use Rattle.board.specs.declared.BoardPins.{BoardPins}
use Rattle.least_pin.specs.LeastPin.{has24, controls, least_of, least_pin}

unfoldable pub lesser : (a b : ℕ) → ℕ
lesser a b = pick (ltb a b) a b

abbrev pub least_of_four : (a b c d : ℕ) → ℕ
least_of_four a b c d = lesser (lesser a b) (lesser c d)

-- std's word for it
pub min_is : (a b : ℕ) → min a b ≡ lesser a b
unfolding lesser
min_is a b = go (ltb a b) refl
  where
    go : (c : Bool) → ltb a b ≡ c → min a b ≡ pick c a b
    go true e = let h = ltb-true a b e in omega arith
    go false e = let h = ltb-false a b e in omega arith

lesser_comm : (a b : ℕ) → lesser a b ≡ lesser b a
unfolding lesser
lesser_comm a b = go (ltb a b) (ltb b a) refl refl
  where
    go : (p q : Bool) → ltb a b ≡ p → ltb b a ≡ q → pick p a b ≡ pick q b a
    go true true e f = let h = ltb-true a b e in let k = ltb-true b a f in omega arith
    go true false e f = refl
    go false true e f = refl
    go false false e f = let h = ltb-false a b e in let k = ltb-false b a f in omega arith

lesser_assoc : (a b c : ℕ) → lesser (lesser a b) c ≡ lesser a (lesser b c)
unfolding lesser
lesser_assoc a b c = go (ltb a b) (ltb b c) refl refl
  where
    go : (p q : Bool) → ltb a b ≡ p → ltb b c ≡ q
        → pick (ltb (pick p a b) c) (pick p a b) c ≡ pick (ltb a (pick q b c)) a (pick q b c)
    go true true e f = let h = ltb-true a b e in let k = ltb-true b c f in rw (e, lt-ltb a c (omega arith)) refl
    go true false e f = refl
    go false true e f = rw (e, f) refl
    go false false e f = let h = ltb-false a b e in let k = ltb-false b c f in rw (f, le-ltb a c (omega arith)) refl

two : (a b m : ℕ) → lesser b (lesser a m) ≡ lesser (lesser a b) m
two a b m = sym (lesser_assoc b a m) ∙ ap (λ x. lesser x m) (lesser_comm b a)

three : (a b c m : ℕ) → lesser c (lesser b (lesser a m)) ≡ least_of_four a b c m
three a b c m = ap (lesser c) (two a b m) ∙ two (lesser a b) c m ∙ lesser_assoc (lesser a b) c m

four : (a b c d m : ℕ) → lesser d (lesser c (lesser b (lesser a m))) ≡ lesser (least_of_four a b c d) m
four a b c d m = two c d (lesser b (lesser a m)) ∙ ap (lesser (lesser c d)) (two a b m) ∙ two (lesser a b) (lesser c d) m

lesser_byte : (a : ℕ) → a < 256 → lesser a 255 ≡ a
unfolding lesser
lesser_byte a h = go (ltb a 255) refl
  where
    go : (p : Bool) → ltb a 255 ≡ p → pick p a 255 ≡ a
    go true e = refl
    go false e = let k = ltb-false a 255 e in omega arith

least_on : (ps : List ℕ) (i m : ℕ) → i < length ps → least_of (drop i ps) m ≡ least_of (drop (suc i) ps) (lesser (get_or ps i 0) m)
unfolding least_of lesser
least_on ps i m h = rw (drop-cons ps i 0)

-- four pins more, the least of them r
least_four : (ps : List ℕ) (i m r : ℕ) → suc (suc (suc i)) < length ps
    → r ≡ least_of_four (get_or ps i 0) (get_or ps (suc i) 0) (get_or ps (suc (suc i)) 0) (get_or ps (suc (suc (suc i))) 0)
    → least_of (drop i ps) m ≡ least_of (drop (suc (suc (suc (suc i)))) ps) (lesser r m)
least_four ps i m r h e =
    let a = get_or ps i 0 in
    let b = get_or ps (suc i) 0 in
    let c = get_or ps (suc (suc i)) 0 in
    let d = get_or ps (suc (suc (suc i))) 0 in
    least_on ps i m (omega arith)
    ∙ least_on ps (suc i) (lesser a m) (omega arith)
    ∙ least_on ps (suc (suc i)) (lesser b (lesser a m)) (omega arith)
    ∙ least_on ps (suc (suc (suc i))) (lesser c (lesser b (lesser a m))) h
    ∙ ap (least_of (drop (suc (suc (suc (suc i)))) ps)) (four a b c d m ∙ ap (λ x. lesser x m) (sym e))

least_end : (ps : List ℕ) (m : ℕ) → length ps ≡ 16 → least_of (drop 16 ps) m ≡ m
unfolding least_of
least_end ps m h = let k : length ps ≤ 16 = omega arith in rw (drop_of_length-le ps k)

-- sixteen pins in fours
pub least_sixteen : (ps : List ℕ) (k l m n r : ℕ) → length ps ≡ 16 → r < 256
    → k ≡ least_of_four (get_or ps 0 0) (get_or ps 1 0) (get_or ps 2 0) (get_or ps 3 0)
    → l ≡ least_of_four (get_or ps 4 0) (get_or ps 5 0) (get_or ps 6 0) (get_or ps 7 0)
    → m ≡ least_of_four (get_or ps 8 0) (get_or ps 9 0) (get_or ps 10 0) (get_or ps 11 0)
    → n ≡ least_of_four (get_or ps 12 0) (get_or ps 13 0) (get_or ps 14 0) (get_or ps 15 0)
    → r ≡ least_of_four k l m n
    → r ≡ least_of ps 255
least_sixteen ps k l m n r h b d e f g i =
    sym (
    least_four ps 0 255 k (omega arith) d
    ∙ least_four ps 4 (lesser k 255) l (omega arith) e
    ∙ least_four ps 8 (lesser l (lesser k 255)) m (omega arith) f
    ∙ least_four ps 12 (lesser m (lesser l (lesser k 255))) n (omega arith) g
    ∙ least_end ps (lesser n (lesser m (lesser l (lesser k 255)))) h
    ∙ four k l m n 255
    ∙ ap (λ x. lesser x 255) (sym i)
    ∙ lesser_byte r b
    )

seven : (a b c d e f g m : ℕ)
    → least_of (a ∷ b ∷ c ∷ d ∷ e ∷ f ∷ g ∷ []) m ≡ lesser g (lesser f (lesser e (lesser d (lesser c (lesser b (lesser a m))))))
unfolding least_of lesser
seven a b c d e f g m = refl

-- seven pins more
pub least_seven : (a b c d e f g m k l r : ℕ) → k ≡ least_of_four a b c m → l ≡ least_of_four d e f g → r ≡ lesser k l
    → r ≡ least_of (a ∷ b ∷ c ∷ d ∷ e ∷ f ∷ g ∷ []) m
least_seven a b c d e f g m k l r h i j =
    j
    ∙ lesser_comm k l
    ∙ ap (λ x. lesser x k) i
    ∙ ap (lesser (least_of_four d e f g)) (h ∙ sym (three a b c m))
    ∙ sym (four d e f g (lesser c (lesser b (lesser a m))))
    ∙ sym (seven a b c d e f g m)

-- ---- the least pin is at most each address pin

-- m is at most each of the pins
abbrev pub all_from : ℕ → List ℕ → Type 0
all_from m ps = (i : ℕ) → i < length ps → m ≤ get_or ps i 0

pick_le : (p m : ℕ) → (pick (ltb p m) p m ≤ p) × (pick (ltb p m) p m ≤ m)
pick_le p m = go (ltb p m) refl
  where
    go : (c : Bool) → ltb p m ≡ c → (pick c p m ≤ p) × (pick c p m ≤ m)
    go true e = let h = ltb-true p m e in (omega arith, omega arith)
    go false e = let h = ltb-false p m e in (omega arith, omega arith)

least_le : (ps : List ℕ) (m : ℕ) → least_of ps m ≤ m
unfolding least_of
least_le [] m = omega arith
least_le (p ∷ ps) m =
    let h = least_le ps (pick (ltb p m) p m) in
    let k = (pick_le p m).1 in
    omega arith

least_at : (ps : List ℕ) (m : ℕ) → all_from (least_of ps m) ps
unfolding least_of
least_at [] m i h = absurd (not-suc-le-zero h)
least_at (p ∷ ps) m zero h =
    let k = least_le ps (pick (ltb p m) p m) in
    let l = (pick_le p m).0 in
    omega arith
least_at (p ∷ ps) m (suc i) h = least_at ps (pick (ltb p m) p m) i (le_of_suc-le-suc h)

pub least_from : (pins : BoardPins) → all_from (least_pin pins) pins.addr
unfolding least_pin
least_from pins i h =
    let k = least_le (pick (has24 pins) (controls pins) []) (least_of pins.addr 255) in
    let l = least_at pins.addr 255 i h in
    omega arith
