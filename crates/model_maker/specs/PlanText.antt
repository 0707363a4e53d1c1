-- The text of a production plan that cannot be met. In each period at most 10 may be made, and what is made beyond the demand stays in stock
-- for the period after; each two periods demand all that may be made in them, and the last one demands 2 more.
use Rattle.std.specs.Prelude.{ℕ, ◌+◌, ◌-◌, ◌%◌, ◌≤◌, ◌==◌, if◌then◌else◌, List, [], ◌∷◌, ◌++◌, map, flat_map, codes, decimal}
use Rattle.std.specs.List.{range_with_len}

-- from 2 to 60 periods
abbrev pub IsPlanSize : ℕ → Type 0
IsPlanSize n = (2 ≤ n) × (n ≤ 60)

-- what is demanded in period t of n: 9 where t is odd, 11 where it is even, and 2 more in the last
abbrev pub demand : ℕ → ℕ → ℕ
demand n t = (if t % 2 == 1 then 9 else 11) + (if t == n then 2 else 0)

-- ---- names: a letter and the period
-- what is in stock after a period
abbrev pub stock : ℕ → List ℕ
stock t = codes "s" ++ decimal t

-- what is made in it
abbrev pub made : ℕ → List ℕ
made t = codes "p" ++ decimal t

-- the row of its balance
abbrev pub balance : ℕ → List ℕ
balance t = codes "b" ++ decimal t

-- ---- lines
-- the stocks after the first, each with a plus before it
abbrev pub further_stocks : ℕ → List ℕ
further_stocks n = flat_map (λ name. codes " + " ++ name) (map stock (range_with_len 2 (n - 1)))

-- the cost: the stocks after all n periods
abbrev pub cost_line : ℕ → List ℕ
cost_line n = codes " cost: " ++ (stock 1 ++ further_stocks n)

-- the stock from the period before, of which the first period has none
abbrev pub carried : ℕ → List ℕ
carried t = if t == 1 then [] else stock (t - 1) ++ codes " + "

-- a balance: the stock from before, with what is made and without what stays in stock, is what is demanded
abbrev pub balance_line : ℕ → ℕ → List ℕ
balance_line n t = codes " " ++ (balance t ++ (codes ": " ++ (carried t ++ (made t ++ (codes " - " ++ (stock t ++ (codes " = " ++ decimal (demand n t))))))))

-- what may be made in a period
abbrev pub bound_line : ℕ → List ℕ
bound_line t = codes " " ++ (made t ++ codes " <= 10")

-- all lines
abbrev pub plan_lines : ℕ → List (List ℕ)
plan_lines n =
    codes "Minimize" ∷ cost_line n ∷ codes "Subject To"
    ∷ (map (balance_line n) (range_with_len 1 n) ++ codes "Bounds" ∷ (map bound_line (range_with_len 1 n) ++ codes "End" ∷ []))

-- a line and its end
abbrev pub ended : List ℕ → List ℕ
ended line = line ++ 10 ∷ []

-- the bytes of lines
abbrev pub text_of : List (List ℕ) → List ℕ
text_of lines = flat_map ended lines

-- the text of a plan of n periods
unfoldable pub plan_text : ℕ → List ℕ
plan_text n = text_of (plan_lines n)
