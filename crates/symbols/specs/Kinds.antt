-- What a kind of symbols is. Assumes nothing.
use Rattle.std.specs.Prelude.{◌≡◌, Bool, true}

-- the four laws: sameness is reflexive, symmetric and transitive, and same symbols are both foreign or both not
pub record KindLaws {S : Type 0} (same : S → S → Bool) (foreign : S → Bool) : Type 0 where
  pub reflexive : (a : S) → same a a ≡ true
  pub symmetric : (a b : S) → same a b ≡ true → same b a ≡ true
  pub transitive : (a b c : S) → same a b ≡ true → same b c ≡ true → same a c ≡ true
  pub alike : (a b : S) → same a b ≡ true → foreign a ≡ foreign b

-- a kind whose symbols are judged by a part of them that is a symbol of another kind
pub by_part : {S T : Type 0} {same : S → S → Bool} {foreign : S → Bool} (f : T → S) → KindLaws same foreign → KindLaws (λ (a b : T). same (f a) (f b)) (λ (a : T). foreign (f a))
by_part f k = record {
  reflexive = λ a. k.reflexive (f a);
  symmetric = λ a b. k.symmetric (f a) (f b);
  transitive = λ a b c. k.transitive (f a) (f b) (f c);
  alike = λ a b. k.alike (f a) (f b);
}
