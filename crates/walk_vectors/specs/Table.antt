-- The graph that a table of edges gives.
use Rattle.std.specs.Prelude.{◌≡◌, ℕ, ◌-◌, ◌<◌, ◌≤◌, Bool, true, false, cond, [], Some, None, Option, nat_lt, slice_index, slice_index_or, refl}
use Rattle.std.proofs.Common.{subst, arith}
use Rattle.std.proofs.lemmas.Bool.{ltb-true}
use Rattle.walk.specs.Graph.{LabelledGraph, Sound}
use Rattle.walk_vectors.specs.declared.Table.{Table}

-- the number, if the test holds
abbrev pub provided : Bool → Option ℕ → Option ℕ
provided b o = cond b o None

-- the table's entry for a node and a label
abbrev pub entry : Table → ℕ → ℕ → ℕ
entry t x l = slice_index (slice_index_or t.edges x []) (l - 1)

-- five nodes and three labels; an entry that is not below 5 stands for no edge
abbrev pub table_graph : Table → LabelledGraph
table_graph t =
    record {
      nodes = 5;
      labels = 3;
      start = 0;
      goes = λ x l. provided (nat_lt x 5) (provided (nat_lt 0 l) (provided (nat_lt l 4) (provided (nat_lt (entry t x l) 5) (Some (entry t x l)))));
      wanted = λ x. cond (nat_lt x 5) (slice_index_or t.wanted x false) false;
    }

provided_some : (b : Bool) (o : Option ℕ) (y : ℕ) → provided b o ≡ Some y → (b ≡ true) × (o ≡ Some y)
provided_some true o y e = (refl, e)
provided_some false o y e = absurd (let z : ◌≡◌ {A = ℕ} 0 1 = cc in let f : ⊥ = omega arith in f)

holds_left : (b d : Bool) → cond b d false ≡ true → b ≡ true
holds_left true d e = refl
holds_left false d e = e

-- what an edge's being there says of its ends and its label
edge : (t : Table) (x l y : ℕ) → (table_graph t).goes x l ≡ Some y → (x < 5) × (1 ≤ l) × (l ≤ 3) × (y < 5)
edge t x l y e =
    let v = entry t x l in
    let a = provided_some (nat_lt x 5) _ y e in
    let b = provided_some (nat_lt 0 l) _ y a.1 in
    let c = provided_some (nat_lt l 4) _ y b.1 in
    let d = provided_some (nat_lt v 5) _ y c.1 in
    let s : v ≡ y = (let f = d.1 in cc) in (
      ltb-true x 5 a.0,
      omega (arith, ltb-true 0 l b.0),
      omega (arith, ltb-true l 4 c.0),
      subst (λ n. n < 5) s (ltb-true v 5 d.0),
    )

pub table_sound : (t : Table) → Sound (table_graph t)
table_sound t =
    record {
      few_nodes = omega arith;
      few_labels = omega arith;
      starts = omega arith;
      leaves = λ x l y e. (edge t x l y e).0;
      arrives = λ x l y e. (edge t x l y e).3;
      labelled = λ x l y e. ((edge t x l y e).1, (edge t x l y e).2);
      wants = λ x e. ltb-true x 5 (holds_left (nat_lt x 5) _ e);
    }
