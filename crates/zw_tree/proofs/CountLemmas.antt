-- How many rows there are, and how many directories lie each in the last row of the one before.
use Rattle.std.proofs.Common.{◌≡◌, ℕ, suc, ◌+◌, ◌-◌, ◌*◌, ◌<◌, ◌≤◌, List, [], ◌∷◌, ◌++◌, refl, ap, ◌∙◌, arith}
use Rattle.zw_tree.specs.Row.{Node, Rows, Row, file, folder, no_rows, row, rows_of, listed, rows_within, count, count_rows, count_node, chain, chain_rows, chain_node}
use Rattle.zw_tree.specs.Falls.{count_rows-of}

pub count-append : (xs ys : List Row) → count (xs ++ ys) ≡ count xs + count ys
count-append [] ys = omega arith
count-append (x ∷ xs) ys = omega (arith, count-append xs ys)

pub chain-last : (xs : List Row) (r : Row) → chain (xs ++ r ∷ []) ≡ chain_node r.node
chain-last [] r = refl
chain-last (x ∷ []) r = refl
chain-last (x ∷ y ∷ xs) r = chain-last (y ∷ xs) r

count-listed : (rows : Rows) → count (listed rows) ≡ count_rows rows
count-listed no_rows = omega arith
count-listed (row name node more) = omega (arith, count-listed more)

chain-of : (rs : List Row) → chain_rows (rows_of rs) ≡ chain rs
chain-of [] = refl
chain-of (r ∷ []) = refl
chain-of (r ∷ s ∷ rs) = chain-of (s ∷ rs)

chain-listed : (rows : Rows) → chain (listed rows) ≡ chain_rows rows
chain-listed no_rows = refl
chain-listed (row name node no_rows) = refl
chain-listed (row name node (row other n more)) = chain-listed (row other n more)

mutual
  chain_rows-few : (rows : Rows) → chain_rows rows ≤ count_rows rows
  chain_rows-few no_rows = omega arith
  chain_rows-few (row name node no_rows) = omega (arith, chain_node-few node)
  chain_rows-few (row name node (row other n more)) = omega (arith, chain_rows-few (row other n more))

  chain_node-few : (node : Node) → chain_node node ≤ count_node node + 1
  chain_node-few (file text) = omega arith
  chain_node-few (folder rows) = omega (arith, chain_rows-few rows)

pub chain-few : (rs : List Row) → chain rs ≤ count rs
chain-few rs = omega (arith, chain_rows-few (rows_of rs), chain-of rs, count_rows-of rs)

within-few : (node : Node) → count (rows_within node) ≤ count_node node
within-few (file text) = omega arith
within-few (folder rows) = omega (arith, count-listed rows)

-- one step down, and one up
abbrev pub left_of : List Row → List Row → ℕ
left_of here above = 2 * (count here + count above) - chain above

-- here are the rows in hand, and above those of the directories that they were taken from
pub down_falls : (here above front : List Row) (r s : Row) → here ≡ front ++ r ∷ [] → s.node ≡ folder (rows_of above) → (h a : List Row) → h ≡ rows_within r.node → a ≡ front ++ s ∷ [] → left_of h a < left_of here above
down_falls here above front r s here_is is h a h_is a_is =
    let last : chain a ≡ suc (chain above) = ap chain a_is ∙ chain-last front s ∙ ap chain_node is ∙ ap suc (chain-of above) in
    let within : count h ≤ count_node r.node = omega (arith, ap count h_is, within-few r.node) in
    let all : count here ≡ count front + (count_node r.node + 1) = omega (arith, ap count here_is, count-append front (r ∷ [])) in
    let new : count a ≡ count front + (count above + 1) = omega (arith, ap count a_is, count-append front (s ∷ []), ap count_node is, count_rows-of above) in
    omega (arith, last, within, all, new, chain-few above)

pub up_falls : (here above front : List Row) (r : Row) → here ≡ [] → above ≡ front ++ r ∷ [] → (h a : List Row) → h ≡ front → a ≡ rows_within r.node → left_of h a < left_of here above
up_falls here above front r none above_is h a h_is a_is = by r.node refl where
  by : (node : Node) → r.node ≡ node → left_of h a < left_of here above
  by (file text) is =
      let empty : a ≡ [] = a_is ∙ ap rows_within is in
      let last : chain above ≡ 0 = ap chain above_is ∙ chain-last front r ∙ ap chain_node is in
      let all : count above ≡ count front + 1 = omega (arith, ap count above_is, count-append front (r ∷ []), ap count_node is) in
      omega (arith, ap count none, ap count empty, ap chain empty, last, all, ap count h_is)
  by (folder rows) is =
      let within : a ≡ listed rows = a_is ∙ ap rows_within is in
      let last : chain above ≡ suc (chain_rows rows) = ap chain above_is ∙ chain-last front r ∙ ap chain_node is in
      let all : count above ≡ count front + (count_rows rows + 1) = omega (arith, ap count above_is, count-append front (r ∷ []), ap count_node is) in
      omega (arith, ap count none, ap count within, count-listed rows, ap chain within, chain-listed rows, chain_rows-few rows, last, all, ap count h_is)
