-- Writes into core and joined memory, and what they leave.
use Rattle.std.proofs.Common.{◌≡◌, ℕ, zero, suc, ◌+◌, ◌-◌, ◌<◌, min, List, [], ◌∷◌, ◌++◌, length, take, drop, set, sym, refl, ap, ◌∙◌, arith, MutBor}
use base.Fml.{GName}
use Rattle.std.proofs.lemmas.List.{length-take, length-set, length-append, set-append_left, set-append_right, drop-set-lt, take-append-drop, take_at, drop_at}
use Rattle.memory.specs.Outer.{Outer, row, pair, outer_row, outer_pair}
use Rattle.memory.specs.Words.{whole, front, behind, joint}

-- a write commutes with a cut
take_set_any : (n : ℕ) (xs : List ℕ) (i x : ℕ) → take n (set xs i x) ≡ set (take n xs) i x
take_set_any zero xs i x = refl
take_set_any (suc n) [] i x = refl
take_set_any (suc n) (y ∷ ys) zero x = refl
take_set_any (suc n) (y ∷ ys) (suc i) x = ap (λ t. y ∷ t) (take_set_any n ys i x)

-- ---- core memory

-- the memory is the whole blocks at the front
pub length_front : (xs : List ℕ) → length (front xs) ≡ whole (length xs)
length_front xs = length-take (whole (length xs)) xs ∙ omega arith

-- a write of the caller's words is one of the memory's
pub front_set : (xs : List ℕ) (i x : ℕ) → front (set xs i x) ≡ set (front xs) i x
front_set xs i x = ap (λ n. take (whole n) (set xs i x)) (length-set xs i x) ∙ take_set_any (whole (length xs)) xs i x

-- a write within the memory leaves the words behind it
pub row_set : (n : GName) (xs : List ℕ) (i x : ℕ) → i < whole (length xs) → row n (behind (set xs i x)) ≡ row n (behind xs)
row_set n xs i x h =
    ap (λ k. row n (drop (whole k) (set xs i x))) (length-set xs i x) ∙ ap (row n) (drop-set-lt (whole (length xs)) xs i x h)

-- what the caller's words are: the memory's, then those behind it as they were
pub rebuilt : (r s : MutBor (List ℕ)) (ws : List ℕ) → outer_row r ≡ outer_row s → front r.now ≡ ws → (r.ghost_name ≡ s.ghost_name) × (r.now ≡ ws ++ behind s.now)
rebuilt r s ws p q =
    let b : behind r.now ≡ behind s.now = cc in
    (cc, sym (take-append-drop (whole (length r.now)) r.now) ∙ ap (λ z. z ++ behind r.now) q ∙ ap (λ z. ws ++ z) b)

-- ---- joined memory

pub length_joint : (xs ys : List ℕ) → length (joint xs ys) ≡ min 65536 (length xs + length ys)
length_joint xs ys = length-take 65536 (xs ++ ys) ∙ ap (min 65536) (length-append xs ys)

pub joint_set_first : (xs ys : List ℕ) (i x : ℕ) → i < length xs → joint (set xs i x) ys ≡ set (joint xs ys) i x
joint_set_first xs ys i x h = ap (take 65536) (sym (set-append_left xs ys i x h)) ∙ take_set_any 65536 (xs ++ ys) i x

-- a write in the second list is one behind the first
append_set_second : (xs ys : List ℕ) (i j x : ℕ) → length xs + j ≡ i → xs ++ set ys j x ≡ set (xs ++ ys) i x
append_set_second xs ys i j x e =
    let f : j ≡ i - length xs = omega arith in
    ap (λ k. xs ++ set ys k x) f ∙ sym (set-append_right xs ys (length xs) i x refl (omega arith))

pub joint_set_second : (xs ys : List ℕ) (i j x : ℕ) → length xs + j ≡ i → joint xs (set ys j x) ≡ set (joint xs ys) i x
joint_set_second xs ys i j x e = ap (take 65536) (append_set_second xs ys i j x e) ∙ take_set_any 65536 (xs ++ ys) i x

pub pair_same : {a a' b b' : Outer} (xs xs' ys ys' : List ℕ) → a' ≡ a → b' ≡ b → xs' ≡ xs → ys' ≡ ys → outer_pair a' b' xs' ys' ≡ outer_pair a b xs ys
pair_same xs xs' ys ys' p q r s = cc

pub pair_set_first : {a a' b : Outer} (xs' xs ys : List ℕ) (i x : ℕ) → i < length xs → i < 65536 → a' ≡ a → xs' ≡ set xs i x → outer_pair a' b xs' ys ≡ outer_pair a b xs ys
pair_set_first {a} {a'} {b} xs' xs ys i x h k p e =
    pair_same (set xs i x) xs' ys ys p refl e refl ∙ ap (λ n. pair a b n (drop 65536 (set xs i x ++ ys))) (length-set xs i x)
    ∙ ap (pair a b (length xs)) (ap (drop 65536) (sym (set-append_left xs ys i x h)) ∙ drop-set-lt 65536 (xs ++ ys) i x k)

pub pair_set_second : {a b b' : Outer} (ys' xs ys : List ℕ) (i j x : ℕ) → length xs + j ≡ i → i < 65536 → b' ≡ b → ys' ≡ set ys j x → outer_pair a b' xs ys' ≡ outer_pair a b xs ys
pair_set_second {a} {b} ys' xs ys i j x e k p q =
    pair_same xs xs (set ys j x) ys' refl p refl q
    ∙ ap (pair a b (length xs)) (ap (drop 65536) (append_set_second xs ys i j x e) ∙ drop-set-lt 65536 (xs ++ ys) i x k)

-- what the two parts are, from what the joined memory means
pub parted : {a a' b b' : Outer} (xs' ys' xs ys ws : List ℕ) → outer_pair a' b' xs' ys' ≡ outer_pair a b xs ys → joint xs' ys' ≡ ws
    → (a' ≡ a) × (b' ≡ b) × (xs' ≡ take (length xs) (ws ++ drop 65536 (xs ++ ys))) × (ys' ≡ drop (length xs) (ws ++ drop 65536 (xs ++ ys)))
parted xs' ys' xs ys ws p q =
    let l : length xs' ≡ length xs = cc in
    let d : drop 65536 (xs' ++ ys') ≡ drop 65536 (xs ++ ys) = cc in
    let e : xs' ++ ys' ≡ ws ++ drop 65536 (xs ++ ys) = sym (take-append-drop 65536 (xs' ++ ys')) ∙ ap (λ z. z ++ drop 65536 (xs' ++ ys')) q ∙ ap (λ z. ws ++ z) d in
    (cc, cc, sym (take_at xs' ys' (length xs) l) ∙ ap (take (length xs)) e, sym (drop_at xs' ys' (length xs) l) ∙ ap (drop (length xs)) e)
