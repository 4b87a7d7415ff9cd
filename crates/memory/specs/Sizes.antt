-- What every memory owes of its size, and that those of this crate have it.
use Rattle.std.specs.Prelude.{◌≡◌, ℕ, ◌+◌, ◌*◌, ◌%◌, ◌≤◌, List, ◌++◌, length, nat_le, slice_index}
use Rattle.std.proofs.Common.{arith, length-take, length-append}
use Rattle.std.proofs.lemmas.List.FromFn.{length-map-range_with_len}
use Rattle.std.proofs.lemmas.List.Sums.{prefix_len-le-length}
use Rattle.memory.specs.Wide.{lead, adapted, half, place}
use Rattle.memory.specs.Words.{whole, front, joint}

-- whole blocks of 8192 words, eight at most
pub record Sized (ws : List ℕ) : Type 0 where
  pub blocks : length ws % 8192 ≡ 0
  pub most : length ws ≤ 65536

-- core memory is so sized
pub front_sized : (ws : List ℕ) → Sized (front ws)
front_sized ws = record {
  blocks = omega (arith, length-take (whole (length ws)) ws);
  most = omega (arith, length-take (whole (length ws)) ws);
}

-- joined memory is so sized if its parts are
pub joint_sized : (xs ys : List ℕ) → Sized xs → Sized ys → Sized (joint xs ys)
joint_sized xs ys p q = record {
  blocks = omega (arith, length-take 65536 (xs ++ ys), length-append xs ys);
  most = omega (arith, length-take 65536 (xs ++ ys));
}

-- there are no more leading portions than portions
pub lead_le : (ps : List ℕ) (n : ℕ) → lead ps n ≤ length ps
lead_le ps n = prefix_len-le-length (λ p. nat_le (4096 * (p + 1)) n) ps

-- the size of adaptor memory, by its leading portions
pub length_adapted : (ps ws : List ℕ) → length (adapted ps ws) ≡ 8192 * lead ps (length ws)
unfolding adapted
length_adapted ps ws = length-map-range_with_len (λ at. half (slice_index ws (place ps at)) at) 0 (8192 * lead ps (length ws))

-- adaptor memory is so sized, since a plan has eight portions
pub adapted_sized : (ps ws : List ℕ) → length ps ≡ 8 → Sized (adapted ps ws)
adapted_sized ps ws e = record {
  blocks = omega (arith, length_adapted ps ws);
  most = omega (arith, length_adapted ps ws, lead_le ps (length ws));
}
