-- The models of the worked cases are well-formed.
use Rattle.std.proofs.Common.{refl, arith}
use Rattle.codes.specs.Tree.{empty, leaf, then, either, maybe, many}
use Rattle.language.specs.Meaning.{Formed}
use Rattle.worked.specs.Models.{star_a_star, loop_then_b, a_then_star, stars_star, either_star, stars, empty_model, only_a, a_x_b, a_b, a_star, a_maybe_b}

module _ {S : Type 0} (a b x : S) where
  pub star_a_star_formed : Formed (star_a_star a)
  star_a_star_formed = record {
    few = omega arith;
    short = omega arith;
    tree = then (then (many (leaf 1)) (leaf 2)) (many (leaf 3));
    codes = record { codes = refl; places = refl };
  }

  pub loop_then_b_formed : Formed (loop_then_b a b)
  loop_then_b_formed = record {
    few = omega arith;
    short = omega arith;
    tree = then (many (then (leaf 1) (maybe (leaf 2)))) (leaf 3);
    codes = record { codes = refl; places = refl };
  }

  pub a_then_star_formed : Formed (a_then_star a)
  a_then_star_formed = record {
    few = omega arith;
    short = omega arith;
    tree = then (leaf 1) (many (leaf 2));
    codes = record { codes = refl; places = refl };
  }

  pub stars_star_formed : Formed (stars_star a b)
  stars_star_formed = record {
    few = omega arith;
    short = omega arith;
    tree = many (then (many (leaf 1)) (many (leaf 2)));
    codes = record { codes = refl; places = refl };
  }

  pub either_star_formed : Formed (either_star a b)
  either_star_formed = record {
    few = omega arith;
    short = omega arith;
    tree = many (either (leaf 1) (leaf 2));
    codes = record { codes = refl; places = refl };
  }

  pub stars_formed : Formed (stars a b)
  stars_formed = record {
    few = omega arith;
    short = omega arith;
    tree = then (many (leaf 1)) (many (leaf 2));
    codes = record { codes = refl; places = refl };
  }

  pub empty_formed : Formed (empty_model {S = S})
  empty_formed = record {
    few = omega arith;
    short = omega arith;
    tree = empty;
    codes = record { codes = refl; places = refl };
  }

  pub only_a_formed : Formed (only_a a)
  only_a_formed = record {
    few = omega arith;
    short = omega arith;
    tree = leaf 1;
    codes = record { codes = refl; places = refl };
  }

  pub a_x_b_formed : Formed (a_x_b a x b)
  a_x_b_formed = record {
    few = omega arith;
    short = omega arith;
    tree = then (then (leaf 1) (leaf 2)) (leaf 3);
    codes = record { codes = refl; places = refl };
  }

  pub a_b_formed : Formed (a_b a b)
  a_b_formed = record {
    few = omega arith;
    short = omega arith;
    tree = then (leaf 1) (leaf 2);
    codes = record { codes = refl; places = refl };
  }

  pub a_star_formed : Formed (a_star a)
  a_star_formed = record {
    few = omega arith;
    short = omega arith;
    tree = many (leaf 1);
    codes = record { codes = refl; places = refl };
  }

  pub a_maybe_b_formed : Formed (a_maybe_b a b)
  a_maybe_b_formed = record {
    few = omega arith;
    short = omega arith;
    tree = then (leaf 1) (maybe (leaf 2));
    codes = record { codes = refl; places = refl };
  }
