-- From pairs in the tables to competing positions.
use Rattle.std.proofs.Common.{◌≡◌, ℕ, ◌+◌, ◌-◌, ◌<◌, Bool, true, List, length, Some, None, sym, subst, inl, inr, arith}
use Rattle.std.proofs.lemmas.Bool.{cases_order}
use Rattle.symbols.specs.Kinds.{KindLaws}
use Rattle.language.specs.Words.{Follows, Parts}
use Rattle.language.specs.Meaning.{Model, body, Formed, symbol_at, agree, Competes, Unambiguous, LeastCompeting}
use Rattle.language.specs.Theorems.{Same, Rivals}
use Rattle.language.proofs.Told.{parting}
use Rattle.language.proofs.Whole.{follow_in}
use Rattle.language.proofs.Exact.{follows_follow}
use Rattle.language.proofs.Symbols.{agree_within, agree_turn}
use Rattle.language.proofs.Reading.{numbered, body_spans}
use Rattle.models.specs.declared.pairs.Pair.{Pair}
use Rattle.models.specs.declared.tables.Sets.{Sets}
use Rattle.models.specs.TablesOf.{SetsOf}
use Rattle.models.specs.Clashes.{Share, Clash, Found}

module _ {S : Type 0} (same : S → S → Bool) (m : Model S) where
  -- competing goes both ways
  pub turned : {foreign : S → Bool} → KindLaws same foreign → (x y : ℕ) → Competes same m x y → Competes same m y x
  turned laws x y c =
      ((λ q. c.0 (sym q)), agree_turn same laws (symbol_at m.symbols x) (symbol_at m.symbols y) c.1, (c.2.0, c.2.2, c.2.1, c.2.4, c.2.3))

  module _ (s : Sets) (rows : List ℕ) (w : Formed m) (even : length rows ≡ length m.symbols) (t : SetsOf s rows (length m.symbols) (body m)) where
    parts_at : (x y : ℕ) → Same (Parts (body m) x y) (Rivals (body m) x y)
    parts_at x y = parting (length m.symbols) (body m) (numbered same m w) x y

    share_parts : (x y : ℕ) → Share s.first rows (length rows) x y → Parts (body m) (x + 1) (y + 1)
    share_parts x y (inl b) = (parts_at (x + 1) (y + 1)).1 (inl ((t.begin x).0 b.0, (t.begin y).0 b.1))
    share_parts x y (inr f) =
        let lt : f.0 < length m.symbols = omega (arith, f.1) in
        (parts_at (x + 1) (y + 1)).1 (inr (f.0 + 1, (t.follow f.0 lt x).0 f.2, (t.follow f.0 lt y).0 f.3))

    follow_share : (x y z : ℕ) → Follows (body m) z (x + 1) → Follows (body m) z (y + 1) → Share s.first rows (length rows) x y
    follow_share x y z f g =
        let i = (follow_in (body m) z (x + 1) (follows_follow (body m) z (x + 1) f)).0 in
        let low = (body_spans same m w).above z i in
        let high = (body_spans same m w).upto z i in
        let q : z ≡ z - 1 + 1 = omega arith in
        let lt : z - 1 < length m.symbols = omega arith in
        inr (z - 1, omega arith, (t.follow (z - 1) lt x).1 (subst (λ n. Follows (body m) n (x + 1)) q f), (t.follow (z - 1) lt y).1 (subst (λ n. Follows (body m) n (y + 1)) q g))

    parts_share : (x y : ℕ) → Parts (body m) (x + 1) (y + 1) → Share s.first rows (length rows) x y
    parts_share x y p =
        elim ((parts_at (x + 1) (y + 1)).0 p) [
          | inl b ↦ inl ((t.begin x).1 b.0, (t.begin y).1 b.1)
          | inr f ↦ follow_share x y f.0 f.1 f.2
        ]

    clash_competes : (x y : ℕ) → Clash same m.symbols s.first rows x y → Competes same m (x + 1) (y + 1)
    clash_competes x y c = ((λ q. omega (arith, c.rising)), c.agreed, share_parts x y c.share)

    competes_clash : (x y : ℕ) → x < y → Competes same m x y → Clash same m.symbols s.first rows (x - 1) (y - 1)
    competes_clash x y h c =
        let i = agree_within same m.symbols x y c.1 in
        let qx : x ≡ x - 1 + 1 = omega (arith, i.0) in
        let qy : y ≡ y - 1 + 1 = omega (arith, i.1) in
        record {
          rising = omega (arith, i.0);
          within = omega (arith, i.1);
          agreed = subst (λ u. agree same (symbol_at m.symbols u) (symbol_at m.symbols (y - 1 + 1)) ≡ true) qx (subst (λ v. agree same (symbol_at m.symbols x) (symbol_at m.symbols v) ≡ true) qy c.1);
          share = parts_share (x - 1) (y - 1) (subst (λ u. Parts (body m) u (y - 1 + 1)) qx (subst (λ v. Parts (body m) x v) qy c.2));
        }

    pub found_least : (n : ℕ) (p : Pair) → Found same m.symbols s.first rows n (Some p) → LeastCompeting same m p.first p.second
    found_least n p f =
        let x = f.0 in
        let y = f.1 in
        let c = f.3 in
        let l : LeastCompeting same m (x + 1) (y + 1) = record {
          rising = omega (arith, c.rising);
          compete = clash_competes x y c;
          least = λ u v h k.
              let i = agree_within same m.symbols u v k.1 in
              elim (f.4 (u - 1) (v - 1) (competes_clash u v h k)) [
                | inl lt ↦ inl (omega (arith, i.0))
                | inr e ↦ inr (omega (arith, i.0, e.0), omega (arith, i.1, e.1))
              ];
        } in
        subst (λ (r : Pair). LeastCompeting same m r.first r.second) (sym f.2) l

    -- sameness both ways round is needed only here
    pub found_none : {foreign : S → Bool} → KindLaws same foreign → Found same m.symbols s.first rows (length m.symbols) None → Unambiguous same m
    found_none laws f x y c =
        let i = agree_within same m.symbols x y c.1 in
        elim (cases_order x y) [
          | inl e ↦ c.0 e
          | inr (inl h) ↦ f (x - 1) (y - 1) (omega (arith, i.0)) (competes_clash x y h c)
          | inr (inr h) ↦ f (y - 1) (x - 1) (omega (arith, i.1)) (competes_clash y x h (turned laws x y c))
        ]
