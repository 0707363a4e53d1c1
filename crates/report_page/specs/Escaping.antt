-- How a text is written so that it stands for itself on a page, in running text and in attributes alike.
use Rattle.std.specs.Prelude.{◌≡◌, ◌≢◌, ℕ, ◌==◌, cond, List, [], ◌∷◌, ◌++◌, flat_map, codes, All, Contains}

-- the five entities: of &, <, >, " and '
abbrev pub entities : List (List ℕ)
entities = codes "&amp;" ∷ codes "&lt;" ∷ codes "&gt;" ∷ codes "&quot;" ∷ codes "&#39;" ∷ []

-- a byte: those of &, <, >, " and ' are written as their entities, and any other as itself
abbrev pub escaped_byte : ℕ → List ℕ
escaped_byte b =
    cond (b == 38) (codes "&amp;") (cond (b == 60) (codes "&lt;") (cond (b == 62) (codes "&gt;")
    (cond (b == 34) (codes "&quot;") (cond (b == 39) (codes "&#39;") (b ∷ [])))))

-- a text, byte by byte
abbrev pub escaped : List ℕ → List ℕ
escaped text = flat_map escaped_byte text

-- ---- the law
-- none of <, >, " and '
pub record IsPlain (b : ℕ) : Type 0 where
  pub less : b ≢ 60
  pub greater : b ≢ 62
  pub double_quote : b ≢ 34
  pub single_quote : b ≢ 39

-- the text begins with one of the five entities
pub record BeginsEntity (text : List ℕ) : Type 0 where
  pub entity : List ℕ
  pub known : Contains entities entity
  pub rest : List ℕ
  pub is : text ≡ entity ++ rest

-- In an escaped text no byte is <, >, " or ', each & begins one of the five entities, and no two texts are escaped alike.
pub record EscapingLaw : Type 0 where
  pub plain : (text : List ℕ) → All IsPlain (escaped text)
  pub ampersands : (text front back : List ℕ) → escaped text ≡ front ++ 38 ∷ back → BeginsEntity (38 ∷ back)
  pub injective : (s t : List ℕ) → escaped s ≡ escaped t → s ≡ t
