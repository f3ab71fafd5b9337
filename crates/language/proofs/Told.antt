-- The theorems that contracts name, each in one term.
use Rattle.std.proofs.Common.{ℕ, ◌∷◌, ◌++◌, ap, inl, inr}
use Rattle.language.specs.Words.{Expr}
use Rattle.codes.proofs.Building.{codes_build}
use Rattle.language.specs.Meaning.{built_tree}
use Rattle.language.specs.Theorems.{TreeOfCodes, LocalWords, PositionsOccur, SetsExact, Rivals, Parting}
use Rattle.language.proofs.Numbering.{numbered_spans}
use Rattle.language.proofs.Sound.{sound}
use Rattle.language.proofs.Whole.{whole, whole_empty}
use Rattle.language.proofs.Exact.{in_occurs, occurs_in, first_begins, begins_first, last_ends, ends_last, follow_follows, follows_follow, empty_nullable}
use Rattle.language.proofs.Opponents.{Together, parts_together, together_parts}

pub tree_of_codes : TreeOfCodes
tree_of_codes n cs e c = ap built_tree (codes_build c)

pub local_words : LocalWords
local_words n e h w = (sound e w, whole e (numbered_spans n e h).distinct w)

pub positions_occur : PositionsOccur
positions_occur n e h x =
    let s = numbered_spans n e h in (
      (λ k. in_occurs e x (s.all x k.0 k.1)),
      (λ o. let i = occurs_in e x o.0 o.1 (sound e (o.0 ++ (x ∷ o.1)) o.2) in (s.above x i, s.upto x i)),
    )

pub sets_exact : SetsExact
sets_exact e =
    record {
      nullable = (whole_empty e, empty_nullable e);
      first = λ x. (first_begins e x, begins_first e x);
      last = λ x. (last_ends e x, ends_last e x);
      follow = λ x y. (follow_follows e x y, follows_follow e x y);
    }

together_rivals : (e : Expr) (x y : ℕ) → Together e x y → Rivals e x y
together_rivals e x y (inl h) = inl (first_begins e x h.0, first_begins e y h.1)
together_rivals e x y (inr h) = inr (h.0, follow_follows e h.0 x h.1, follow_follows e h.0 y h.2)

rivals_together : (e : Expr) (x y : ℕ) → Rivals e x y → Together e x y
rivals_together e x y (inl h) = inl (begins_first e x h.0, begins_first e y h.1)
rivals_together e x y (inr h) = inr (h.0, follows_follow e h.0 x h.1, follows_follow e h.0 y h.2)

pub parting : Parting
parting n e h x y = (
  (λ p. together_rivals e x y (parts_together e x y p)),
  (λ p. together_parts e (numbered_spans n e h).distinct x y (rivals_together e x y p)),
)
