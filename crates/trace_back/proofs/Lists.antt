-- Shares that are listed, one variable after another.
use Rattle.std.proofs.Common.{◌≡◌, ◌+◌, sym, ◌∙◌, ap, ℕ, List, ◌++◌, map, append_assoc, add-one, arith}
use Rattle.std.specs.Prelude.{flat_map}
use Rattle.std.proofs.lemmas.List.{map-append}
use Rattle.lp_model.specs.declared.members.Side.{Side}
use Rattle.lp_model.specs.declared.members.Side.TheVariants.{Lo, Up}
use Rattle.certs.specs.declared.evidence.Share.{Share}
use Rattle.certs.specs.Ended.{numbers_from}
use Rattle.certs.specs.Named.{named}
use Rattle.certs.specs.System.{VariableShare}
use Rattle.reductions.specs.Back.{Weights, share_of}
use Rattle.reductions.proofs.WeightShares.{flat_more}

-- those that h gives for so many numbers
abbrev pub listed : ℕ → (ℕ → List VariableShare) → ℕ → ℕ → List Share
listed columns h a n = map (named columns) (flat_map h (numbers_from a n))

pub listed-more : (columns : ℕ) (h : ℕ → List VariableShare) (a n : ℕ) → listed columns h a (n + 1) ≡ listed columns h a n ++ map (named columns) (h (a + n))
listed-more columns h a n =
    ap (listed columns h a) (add-one n)
    ∙ ap (map (named columns)) (flat_more h a n)
    ∙ map-append (named columns) (flat_map h (numbers_from a n)) (h (a + n))

-- the shares of a row
abbrev pub of_row : Weights → ℕ → List VariableShare
of_row w v = share_of w Lo v ++ share_of w Up v

-- both sides of one row more
pub row_more : (columns : ℕ) (w : Weights) (n : ℕ) (old : List Share) →
    ((old ++ listed columns (of_row w) columns n) ++ map (named columns) (share_of w Lo (columns + n))) ++ map (named columns) (share_of w Up (columns + n)) ≡ old ++ listed columns (of_row w) columns (n + 1)
row_more columns w n old =
    let v = columns + n in
    let done = listed columns (of_row w) columns n in
    append_assoc (old ++ done) (map (named columns) (share_of w Lo v)) (map (named columns) (share_of w Up v))
    ∙ ap (λ l. (old ++ done) ++ l) (sym (map-append (named columns) (share_of w Lo v) (share_of w Up v)))
    ∙ append_assoc old done (map (named columns) (of_row w v))
    ∙ ap (λ l. old ++ l) (sym (listed-more columns (of_row w) columns n))

-- one limit of a column more
pub column_more : (columns : ℕ) (w : Weights) (side : Side) (n : ℕ) (old : List Share) →
    (old ++ listed columns (share_of w side) 0 n) ++ map (named columns) (share_of w side n) ≡ old ++ listed columns (share_of w side) 0 (n + 1)
column_more columns w side n old =
    let z : 0 + n ≡ n = omega arith in
    append_assoc old (listed columns (share_of w side) 0 n) (map (named columns) (share_of w side n))
    ∙ ap (λ l. old ++ l) (sym (listed-more columns (share_of w side) 0 n ∙ ap (λ k. listed columns (share_of w side) 0 n ++ map (named columns) (share_of w side k)) z))

-- the rows, and then the columns' limits
pub listed-all : (columns rows : ℕ) (w : Weights) → (listed columns (of_row w) columns rows ++ listed columns (share_of w Lo) 0 columns) ++ listed columns (share_of w Up) 0 columns
    ≡ map (named columns) (flat_map (of_row w) (numbers_from columns rows) ++ (flat_map (share_of w Lo) (numbers_from 0 columns) ++ flat_map (share_of w Up) (numbers_from 0 columns)))
listed-all columns rows w =
    let a = flat_map (of_row w) (numbers_from columns rows) in
    let b = flat_map (share_of w Lo) (numbers_from 0 columns) in
    let c = flat_map (share_of w Up) (numbers_from 0 columns) in
    append_assoc (map (named columns) a) (map (named columns) b) (map (named columns) c)
    ∙ ap (λ l. map (named columns) a ++ l) (sym (map-append (named columns) b c))
    ∙ sym (map-append (named columns) a (b ++ c))
