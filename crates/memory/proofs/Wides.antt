-- Memory in 32-bit words.
use Rattle.std.proofs.Common.{◌≡◌, ℕ, ◌+◌, ◌*◌, ◌/◌, ◌%◌, ◌<◌, ◌≤◌, true, false, cond, eqb, leb, ◌≢◌, List, map, length, get_or, take, set, sym, ap, ◌∙◌, inl, inr, arith}
use mathlib.Core.Path.{fun_ext}
use Rattle.std.specs.List.{range_with_len}
use Rattle.std.proofs.lemmas.List.FromFn.{get_or-map-range_with_len}
use Rattle.std.proofs.lemmas.List.{get_or-set_same, get_or-set_other, length-set, length-take, get_or-take, ext_get_or}
use Rattle.std.proofs.lemmas.List.Folds.{list_any_at}
use Rattle.std.proofs.lemmas.List.Sums.{prefix_len_passes}
use Rattle.std.proofs.lemmas.Bool.{cases_eq, cases_order, cond-true, leb-true, eq-eqb, ne_eqb}
use Rattle.std.proofs.lemmas.Bool.Decides.{eqb_tells}
use Rattle.memory.specs.Plans.{Apart}
use Rattle.memory.specs.Sizes.{length_adapted, lead_le}
use Rattle.memory.specs.Wide.{lead, place, half, merged, adapted, among, unreached}

-- each leading portion lies in the words
pub lead_fits : (ps : List ℕ) (n b : ℕ) → b < lead ps n → 4096 * (get_or ps b 0 + 1) ≤ n
lead_fits ps n b h = leb-true _ n (prefix_len_passes (λ p. leb (4096 * (p + 1)) n) ps b 0 h)

-- ---- the place of an address

-- an address below the size lies in the words
pub place_fits : (ps ws : List ℕ) (at : ℕ) → at < length (adapted ps ws) → place ps at < length ws
place_fits ps ws at h =
    let k : at / 8192 < lead ps (length ws) = omega (arith, length_adapted ps ws) in
    omega (arith, lead_fits ps (length ws) (at / 8192) k)

-- two addresses in one word are its two halves
pub place_apart : (ps : List ℕ) → Apart ps → (i j : ℕ) → i < 65536 → j < 65536 → place ps i ≡ place ps j → i / 2 ≡ j / 2
place_apart ps a i j h k e =
    let q : get_or ps (i / 8192) 0 ≡ get_or ps (j / 8192) 0 = omega arith in
    elim (cases_order (i / 8192) (j / 8192)) [
      | inl s ↦ omega arith
      | inr d ↦ elim d [
        | inl l ↦ absurd (a (i / 8192) (j / 8192) l (omega arith) q)
        | inr l ↦ absurd (a (j / 8192) (i / 8192) l (omega arith) (sym q))
      ]
    ]

-- ---- the halves of a word

pub half_same : (x at w : ℕ) → w < 65536 → half (merged x at w) at ≡ w
half_same x at w h =
    elim (eqb_tells (at % 2) 0) [
      | inl t ↦ rw t.0 (omega arith)
      | inr f ↦ rw f.0 (omega arith)
    ]

pub half_other : (x at w i : ℕ) → w < 65536 → i / 2 ≡ at / 2 → i ≢ at → half (merged x at w) i ≡ half x i
half_other x at w i h e ne =
    elim (eqb_tells (at % 2) 0) [
      | inl t ↦ let n : eqb (i % 2) 0 ≡ false = ne_eqb (i % 2) 0 (omega arith) in rw (t.0, n) (omega arith)
      | inr f ↦ let n : eqb (i % 2) 0 ≡ true = eq-eqb (i % 2) 0 (omega arith) in rw (f.0, n) (omega arith)
    ]

-- ---- reads and writes of the meaning

pub get_or_adapted : (ps ws : List ℕ) (k : ℕ) → k < length (adapted ps ws) → get_or (adapted ps ws) k 0 ≡ half (get_or ws (place ps k) 0) k
unfolding adapted
get_or_adapted ps ws k h =
    get_or-map-range_with_len (λ at. half (get_or ws (place ps at) 0) at) 0 (8192 * lead ps (length ws)) k k 0 (omega (arith, length_adapted ps ws)) (omega arith)

module _ (ps ws : List ℕ) (at w : ℕ) (eight : length ps ≡ 8) (apart : Apart ps) (inside : at < length (adapted ps ws)) (fits : w < 65536) where
  pub length_after : length (adapted ps (set ws (place ps at) (merged (get_or ws (place ps at) 0) at w))) ≡ length (adapted ps ws)
  length_after =
      let x = merged (get_or ws (place ps at) 0) at w in
      let e : length (set ws (place ps at) x) ≡ length ws = length-set ws (place ps at) x in
      length_adapted ps (set ws (place ps at) x) ∙ ap (λ n. 8192 * lead ps n) e ∙ sym (length_adapted ps ws)

  pub adapted_set : adapted ps (set ws (place ps at) (merged (get_or ws (place ps at) 0) at w)) ≡ set (adapted ps ws) at w
  adapted_set =
      let x = merged (get_or ws (place ps at) 0) at w in
      let zs = set ws (place ps at) x in
      let here : get_or zs (place ps at) 0 ≡ x = get_or-set_same ws (place ps at) x 0 (place_fits ps ws at inside) in
      ext_get_or 0 (adapted ps zs) (set (adapted ps ws) at w) (length_after ∙ sym (length-set (adapted ps ws) at w)) (λ k h.
      let l : k < length (adapted ps ws) = omega (arith, length_after) in
      let m : length (adapted ps ws) ≤ 65536 = omega (arith, length_adapted ps ws, lead_le ps (length ws)) in
      let g : get_or (adapted ps zs) k 0 ≡ half (get_or zs (place ps k) 0) k = get_or_adapted ps zs k h in
      elim (cases_eq k at) [
        | inl e ↦
            g ∙ ap (λ z. half (get_or zs (place ps z) 0) z) e ∙ ap (λ z. half z at) here ∙ half_same (get_or ws (place ps at) 0) at w fits
            ∙ sym (ap (λ z. get_or (set (adapted ps ws) at w) z 0) e ∙ get_or-set_same (adapted ps ws) at w 0 inside)
        | inr ne ↦
            let kept : get_or (set (adapted ps ws) at w) k 0 ≡ half (get_or ws (place ps k) 0) k = get_or-set_other (adapted ps ws) at k w 0 ne ∙ get_or_adapted ps ws k l in
            elim (cases_eq (place ps k) (place ps at)) [
              | inl p ↦
                  g ∙ ap (λ z. half (get_or zs z 0) k) p ∙ ap (λ z. half z k) here
                  ∙ half_other (get_or ws (place ps at) 0) at w k fits (place_apart ps apart k at (omega arith) (omega arith) p) ne
                  ∙ sym (kept ∙ ap (λ z. half (get_or ws z 0) k) p)
              | inr d ↦ g ∙ ap (λ z. half z k) (get_or-set_other ws (place ps at) (place ps k) x 0 d) ∙ sym kept
            ]
      ])

-- ---- what stays

among_take : (qs : List ℕ) (b n : ℕ) → b < n → b < length qs → among (get_or qs b 0) (take n qs) ≡ true
among_take qs b n h k =
    let p = get_or qs b 0 in
    list_any_at (λ q. eqb p q) (take n qs) b 0 (omega (arith, length-take n qs)) (eq-eqb p (get_or (take n qs) b 0) (sym (get_or-take n qs b 0 h)))

pub unreached_set : (ps ws : List ℕ) (at x : ℕ) → at < length (adapted ps ws) → unreached ps (set ws (place ps at) x) ≡ unreached ps ws
unfolding unreached
unreached_set ps ws at x h =
    let i = place ps at in
    let n = length ws in
    let e : length (set ws i x) ≡ n = length-set ws i x in
    let b : at / 8192 < lead ps n = omega (arith, length_adapted ps ws) in
    let r : among (i / 4096) (take (lead ps n) ps) ≡ true =
    (let d : i / 4096 ≡ get_or ps (at / 8192) 0 = omega arith in
    ap (λ z. among z (take (lead ps n) ps)) d ∙ among_take ps (at / 8192) (lead ps n) b (omega (arith, lead_le ps n))) in
    ap (λ m. map (λ j. cond (among (j / 4096) (take (lead ps m) ps)) 0 (get_or (set ws i x) j 0)) (range_with_len 0 m)) e
    ∙ ap (λ g. map g (range_with_len 0 n)) (fun_ext (λ j.
    elim (cases_eq j i) [
      | inl q ↦ let t : among (j / 4096) (take (lead ps n) ps) ≡ true = ap (λ z. among (z / 4096) (take (lead ps n) ps)) q ∙ r in
          cond-true _ 0 (get_or (set ws i x) j 0) t ∙ sym (cond-true _ 0 (get_or ws j 0) t)
      | inr ne ↦ ap (λ z. cond (among (j / 4096) (take (lead ps n) ps)) 0 z) (get_or-set_other ws i j x 0 ne)
    ]))
