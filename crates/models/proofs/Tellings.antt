-- From the sets of the parts to those of the words of the model.
use Rattle.std.proofs.Common.{◌≡◌, ℕ, zero, suc, ◌+◌, ◌<◌, ◌≤◌, List, [], ◌∷◌, ◌++◌, length, get_or, take, replicate, sym, refl, ap, ◌∙◌, subst, inl, inr, append_assoc, arith}
use Rattle.std.proofs.lemmas.List.{take_at, length-take}
use Rattle.std.proofs.lemmas.Bool.Decides.{Decides-like}
use Rattle.codes.specs.Build.{build, model}
use Rattle.codes.proofs.Faulty.{build_codes}
use Rattle.language.specs.Words.{Expr, Numbered, Begins, Ends, Follows}
use Rattle.language.specs.Sets.{First, Last}
use Rattle.language.specs.Meaning.{tree_of, built_tree}
use Rattle.language.proofs.Told.{positions_occur}
use Rattle.language.proofs.Whole.{whole_empty}
use Rattle.language.proofs.Exact.{first_begins, begins_first, last_ends, ends_last, follow_follows, follows_follow, empty_nullable}
use Rattle.models.specs.declared.tables.Sets.{Sets}
use Rattle.models.specs.Bitsets.{ShowsSet}
use Rattle.models.specs.TablesOf.{SetsOf}
use Rattle.models.specs.Machine.{Shows, FollowAny, Rows}
use Rattle.models.proofs.Bitsets.{set_below}
use Rattle.models.proofs.Stacks.{set_like}

any_follows : (e : Expr) (x y : ℕ) → FollowAny (e ∷ []) x y → Follows e x y
any_follows e x y (inl h) = follow_follows e x y h
any_follows e x y (inr h) = absurd h

-- what begins, ends and follows is a position
module _ (n : ℕ) (e : Expr) (h : Numbered n e) where
  begins_within : (x : ℕ) → Begins e x → x ≤ n
  begins_within x b = ((positions_occur n e h x).1 ([], b.0, b.1)).1

  ends_within : (x : ℕ) → Ends e x → x ≤ n
  ends_within x b = ((positions_occur n e h x).1 (b.0, [], b.1)).1

  follows_within : (x y : ℕ) → Follows e x y → y ≤ n
  follows_within x y b = ((positions_occur n e h y).1 (b.0 ++ (x ∷ []), b.1, rw append_assoc b.2)).1

  sets_told : (p : Sets) (rs : List ℕ) → length rs ≡ n → Shows p e → Rows rs (e ∷ []) → SetsOf p rs n e
  sets_told p rs even s r =
      let first = set_like p.first (First e) (Begins e) (first_begins e) (begins_first e) s.begin in
      let last = set_like p.last (Last e) (Ends e) (last_ends e) (ends_last e) s.end in
      let follow : (x : ℕ) → x < n → ShowsSet (get_or rs x 0) (Follows e (x + 1)) = λ x lt.
      set_like (get_or rs x 0) (FollowAny (e ∷ []) (x + 1)) (Follows e (x + 1)) (any_follows e (x + 1))
      (λ y f. inl (follows_follow e (x + 1) y f)) (r x (omega arith)) in
      record {
        null = Decides-like p.nullable (whole_empty e) (empty_nullable e) s.null;
        begin = first;
        end = last;
        follow = follow;
        first_within = set_below n p.first (Begins e) begins_within first;
        last_within = set_below n p.last (Ends e) ends_within last;
        row_within = λ x lt. set_below n (get_or rs x 0) (Follows e (x + 1)) (follows_within (x + 1)) (follow x lt);
      }

pub built_sets : (n : ℕ) (cs : List ℕ) (e : Expr) (p : Sets) (rs : List ℕ) → build n cs ≡ model e → length rs ≡ n → Shows p e → Rows rs (e ∷ [])
    → SetsOf p rs n (tree_of n cs)
built_sets n cs e p rs q even s r =
    subst (SetsOf p rs n) (sym (ap built_tree q)) (sets_told n e (build_codes {cs = cs} q).places p rs even s r)

pub front_sets : (n : ℕ) (e : Expr) (p : Sets) (rs zs : List ℕ) → length rs ≡ n → SetsOf p rs n e → (length (take n (rs ++ zs)) ≡ n) × SetsOf p (take n (rs ++ zs)) n e
front_sets n e p rs zs even s =
    let q = take_at rs zs n even in
    (ap length q ∙ even, subst (λ l. SetsOf p l n e) (sym q) s)

-- a part of 64 empty rows
pub zeros : (n k x : ℕ) → ◌≡◌ {A = ℕ} (get_or (take k (replicate n 0)) x 0) 0
zeros n zero x = refl
zeros zero (suc k) x = refl
zeros (suc n) (suc k) zero = refl
zeros (suc n) (suc k) (suc x) = zeros n k x

pub zeros_length : (n : ℕ) → n ≤ 64 → length (take n (replicate {A = ℕ} 64 0)) ≡ n
zeros_length n h = omega (arith, length-take n (replicate {A = ℕ} 64 0))
