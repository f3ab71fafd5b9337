-- Two graphs of 266,305 nodes and 64 labels.
use Rattle.std.specs.Prelude.{◌≡◌, ℕ, ◌+◌, ◌*◌, ◌%◌, ◌<◌, ◌≤◌, Bool, true, false, cond, Some, None, Option, ◌==◌, nat_lt, refl}
use Rattle.std.proofs.Common.{arith}
use Rattle.std.proofs.lemmas.Bool.{ltb-true, eqb-true}
use Rattle.walk.specs.Graph.{LabelledGraph, Sound}

-- the number, if the test holds
abbrev pub provided : Bool → ℕ → Option ℕ
provided b y = cond b (Some y) None

provided_some : (b : Bool) (x y : ℕ) → provided b x ≡ Some y → (b ≡ true) × (x ≡ y)
provided_some true x y e = (refl, cc)
provided_some false x y e = absurd (let z : ◌≡◌ {A = ℕ} 0 1 = cc in let f : ⊥ = omega arith in f)

both : (a b : Bool) → cond a b false ≡ true → (a ≡ true) × (b ≡ true)
both true b e = (refl, e)
both false b e = (e, absurd (let z : ◌≡◌ {A = ℕ} 0 1 = cc in let f : ⊥ = omega arith in f))

-- the child of x by the label l is 64 x + l; the last node is wanted
abbrev pub tree : LabelledGraph
tree =
    record {
      nodes = 266305;
      labels = 64;
      start = 0;
      goes = λ x l. provided (cond (nat_lt 0 l) (cond (nat_lt l 65) (nat_lt x 4161) false) false) (64 * x + l);
      wanted = λ x. (x == 266304);
    }

tree_edge : (x l y : ℕ) → tree.goes x l ≡ Some y → (x < 4161) × (1 ≤ l) × (l ≤ 64) × (64 * x + l ≡ y)
tree_edge x l y e =
    let p = provided_some (cond (nat_lt 0 l) (cond (nat_lt l 65) (nat_lt x 4161) false) false) (64 * x + l) y e in
    let a = both (nat_lt 0 l) _ p.0 in
    let b = both (nat_lt l 65) _ a.1 in
    (ltb-true x 4161 b.1, omega (arith, ltb-true 0 l a.0), omega (arith, ltb-true l 65 b.0), p.1)

pub tree_sound : Sound tree
tree_sound =
    record {
      few_nodes = omega arith;
      few_labels = omega arith;
      starts = omega arith;
      leaves = λ x l y e. omega (arith, (tree_edge x l y e).0);
      arrives = λ x l y e. let t = tree_edge x l y e in omega (arith, t.0, t.2, t.3);
      labelled = λ x l y e. ((tree_edge x l y e).1, (tree_edge x l y e).2);
      wants = λ x e. omega (arith, eqb-true x 266304 e);
    }

-- the one edge from x leads to x + 1, by the label x mod 64 + 1; the last node is wanted
abbrev pub line : LabelledGraph
line =
    record {
      nodes = 266305;
      labels = 64;
      start = 0;
      goes = λ x l. provided (cond (nat_lt x 266304) (l == x % 64 + 1) false) (x + 1);
      wanted = λ x. (x == 266304);
    }

line_edge : (x l y : ℕ) → line.goes x l ≡ Some y → (x < 266304) × (l ≡ x % 64 + 1) × (x + 1 ≡ y)
line_edge x l y e =
    let p = provided_some (cond (nat_lt x 266304) (l == x % 64 + 1) false) (x + 1) y e in
    let a = both (nat_lt x 266304) _ p.0 in
    (ltb-true x 266304 a.0, eqb-true l (x % 64 + 1) a.1, p.1)

pub line_sound : Sound line
line_sound =
    record {
      few_nodes = omega arith;
      few_labels = omega arith;
      starts = omega arith;
      leaves = λ x l y e. omega (arith, (line_edge x l y e).0);
      arrives = λ x l y e. let t = line_edge x l y e in omega (arith, t.0, t.2);
      labelled = λ x l y e. let t = line_edge x l y e in (omega (arith, t.1), omega (arith, t.1));
      wants = λ x e. omega (arith, eqb-true x 266304 e);
    }
