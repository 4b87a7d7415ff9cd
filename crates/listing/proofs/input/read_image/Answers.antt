use Rattle.std.proofs.Common.{◌≡◌, ℕ, List, [], ◌++◌, take, Some, None, Option, IfSome, refl, subst, ap, ◌∙◌}
use Rattle.std.specs.Option.{option_map}
use Rattle.listing.proofs.input.read_image.Goals as goal

-- what comes of bytes that are known, of which the first n are read
cut : {R : Type 0} (known : R → Option (List ℕ)) (r i : R) (n : ℕ) (start items : List ℕ) → i ≡ r → n ≡ 65536 → start ≡ []
    → IfSome (option_map (take n) (known i)) (λ xs. items ≡ start ++ xs) → IfSome (known r) (λ bs. items ≡ take 65536 bs)
cut known r i n start items inner limit empty read = by (known r) refl
  where
    by : (o : Option (List ℕ)) → known r ≡ o → IfSome o (λ bs. items ≡ take 65536 bs)
    by None e = tt
    by (Some bs) e =
        let came : items ≡ start ++ take n bs = subst (λ o. IfSome (option_map (take n) o) (λ xs. items ≡ start ++ xs)) (ap known inner ∙ e) read in
        came ∙ (λ j. empty j ++ take (limit j) bs)

pub returns : goal.returns
returns g c =
    cut g.R.Read.remaining c.args.reader _ _ _ _ c.take.ensures.inner c.take.ensures.limit c.new-bytes.ensures.items c.in_ok-read_to_end.ensures.bytes
