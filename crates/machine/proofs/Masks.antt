-- The codes that have an effective address, as the bits of a mask: mask and rule agree at each of the sixteen codes.
use Rattle.std.proofs.Common.{◌≡◌, ℕ, ◌<◌, ◌/◌, ◌%◌, nat_eq, refl, arith}
use Rattle.std.specs.Prelude.{◌^◌, ◌&&◌, ◌||◌, ◌==◌, nat_le, nat_lt}
use Rattle.std.proofs.lemmas.Bool.{agree_below_at}
use Rattle.machine.specs.Decode.{has_address}

pub masked : (w : ℕ) → w < 65536 → nat_eq (57107 / 2 ^ (w / 4096) % 2) 1 ≡ has_address w
masked w l =
    agree_below_at (λ n. nat_eq (57107 / 2 ^ n % 2) 1) (λ n. nat_lt n 2 || (n == 4 || ((nat_le 8 n && nat_lt n 13) || nat_le 14 n))) 16 (w / 4096) refl (omega arith)
