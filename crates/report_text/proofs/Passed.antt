-- What is behind the point of an answer.
use Rattle.std.proofs.Common.{◌≡◌, ◌+◌, ◌∙◌, ap, sym, suc, List, ◌∷◌, ◌++◌, append_assoc, length, length-append, drop, arith}
use Rattle.std.proofs.Math.Seq.{drop-append_seam}

-- two lines, then a first part, a second one, and the end
pub past_one : {A : Type 0} (a b : A) (one two end : List A) → drop (2 + length one) (a ∷ b ∷ ((one ++ two) ++ end)) ≡ two ++ end
past_one a b one two end =
    let two_more : 2 + length one ≡ suc (suc (length one)) = omega arith in
    ap (λ k. drop k (a ∷ b ∷ ((one ++ two) ++ end))) two_more
    ∙ (ap (λ l. drop (length one) l) (append_assoc one two end) ∙ drop-append_seam one (two ++ end))

-- and three parts
pub past_two : {A : Type 0} (a b : A) (one two three end : List A) → drop ((2 + length one) + length two) (a ∷ b ∷ ((one ++ (two ++ three)) ++ end)) ≡ three ++ end
past_two a b one two three end =
    let n : (2 + length one) + length two ≡ 2 + length (one ++ two) = omega (arith, length-append one two) in
    ap (λ k. drop k (a ∷ b ∷ ((one ++ (two ++ three)) ++ end))) n
    ∙ (ap (λ l. drop (2 + length (one ++ two)) (a ∷ b ∷ (l ++ end))) (sym (append_assoc one two three)) ∙ past_one a b (one ++ two) three end)

-- and four parts
pub past_three : {A : Type 0} (a b : A) (one two three four end : List A) → drop (((2 + length one) + length two) + length three) (a ∷ b ∷ ((one ++ (two ++ (three ++ four))) ++ end)) ≡ four ++ end
past_three a b one two three four end =
    let n : ((2 + length one) + length two) + length three ≡ (2 + length (one ++ two)) + length three = omega (arith, length-append one two) in
    ap (λ k. drop k (a ∷ b ∷ ((one ++ (two ++ (three ++ four))) ++ end))) n
    ∙ (ap (λ l. drop ((2 + length (one ++ two)) + length three) (a ∷ b ∷ (l ++ end))) (sym (append_assoc one two (three ++ four))) ∙ past_two a b (one ++ two) three four end)

-- behind three lines
pub past_third : {A : Type 0} (a b c : A) (one two end : List A) → drop (3 + length one) (a ∷ b ∷ c ∷ ((one ++ two) ++ end)) ≡ two ++ end
past_third a b c one two end =
    let three_more : 3 + length one ≡ suc (2 + length one) = omega arith in
    ap (λ k. drop k (a ∷ b ∷ c ∷ ((one ++ two) ++ end))) three_more ∙ past_one b c one two end
