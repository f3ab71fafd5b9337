-- One step of the writer, from the last part to the first. Assumes nothing.
use Rattle.std.proofs.Common.{◌≡◌, ℕ, ◌<◌, List, [], ◌∷◌, ◌++◌, Bor, length, get_or, sym, refl, ap, ◌∙◌, subst, append_assoc, arith, length-append}
use Rattle.std.proofs.lemmas.List.{same_from_push, get_or_past}
use Rattle.codes.specs.Tree.{Tree, empty, leaf, then, either, maybe, many, some, postfix, leaves}
use Rattle.codes.specs.Code.{code_number}
use Rattle.codes.specs.declared.code.Code.{Code}
use Rattle.codes.specs.declared.code.Code.TheVariants.{Empty, Symbol, Then, Either, Optional, Star, Plus}
use Rattle.text_writer.specs.declared.parts.Rest.{Rest}
use Rattle.text_writer.specs.declared.place.Place.{Place}
use Rattle.text_writer.specs.Written.{text}
use Rattle.text_writer.specs.Drafts.{Said, SaidTree}
use Rattle.text_writer.proofs.Wrapped.{some_code}

-- the last code of a tree, and those before it
abbrev root : Tree (List ℕ) → Code
root empty = Empty
root (leaf n) = Symbol
root (then a b) = Then
root (either a b) = Either
root (maybe a) = Optional
root (many a) = Star
root (some a) = Plus

abbrev pub front : Tree (List ℕ) → List ℕ
front empty = []
front (leaf n) = []
front (then a b) = postfix a ++ postfix b
front (either a b) = postfix a ++ postfix b
front (maybe a) = postfix a
front (many a) = postfix a
front (some a) = postfix a

front_root : (x : Tree (List ℕ)) → postfix x ≡ front x ++ (code_number (root x) ∷ [])
front_root empty = refl
front_root (leaf n) = refl
front_root (then a b) = sym (append_assoc (postfix a) (postfix b) (2 ∷ []))
front_root (either a b) = sym (append_assoc (postfix a) (postfix b) (3 ∷ []))
front_root (maybe a) = refl
front_root (many a) = refl
front_root (some a) = refl

-- what holds of each tree with this last code
abbrev pub ByRoot : (Tree (List ℕ) → Type 0) → Code → Type 0
ByRoot Q Empty = Q empty
ByRoot Q Symbol = (n : List ℕ) → Q (leaf n)
ByRoot Q Then = (a b : Tree (List ℕ)) → Q (then a b)
ByRoot Q Either = (a b : Tree (List ℕ)) → Q (either a b)
ByRoot Q Optional = (a : Tree (List ℕ)) → Q (maybe a)
ByRoot Q Star = (a : Tree (List ℕ)) → Q (many a)
ByRoot Q Plus = (a : Tree (List ℕ)) → Q (some a)

by_root : (Q : Tree (List ℕ) → Type 0) (x : Tree (List ℕ)) → ByRoot Q (root x) → Q x
by_root Q empty f = f
by_root Q (leaf n) f = f n
by_root Q (then a b) f = f a b
by_root Q (either a b) f = f a b
by_root Q (maybe a) f = f a
by_root Q (many a) f = f a
by_root Q (some a) f = f a

-- a code is known by its number
abbrev all_codes : List Code
all_codes = Empty ∷ Symbol ∷ Then ∷ Either ∷ Optional ∷ Star ∷ Plus ∷ []

abbrev numbered : ℕ → Code
numbered n = get_or all_codes n Empty

numbered-code_number : (c : Code) → numbered (code_number c) ≡ c
numbered-code_number Empty = refl
numbered-code_number Symbol = refl
numbered-code_number Then = refl
numbered-code_number Either = refl
numbered-code_number Optional = refl
numbered-code_number Star = refl
numbered-code_number Plus = refl

-- codes that end in n, if a tree's codes are their end
behind_root : (cs v u : List ℕ) (n : ℕ) (x : Tree (List ℕ)) → cs ≡ v ++ (n ∷ []) → cs ≡ u ++ postfix x → (v ≡ u ++ front x) × (n ≡ code_number (root x))
behind_root cs v u n x h k =
    same_from_push v (u ++ front x) n (code_number (root x)) (sym h ∙ k ∙ ap (λ (z : List ℕ). u ++ z) (front_root x) ∙ sym (append_assoc u (front x) (code_number (root x) ∷ [])))

module _ (r : Rest) (cs : Bor (List ℕ)) (n : ℕ) (p : Place) (d : List ℕ) (q : Rest) (e : List ℕ) (h : r.codes.now ≡ cs.now ++ (n ∷ [])) where
  -- what is to show of a tree behind its last code
  abbrev pub Behind : Tree (List ℕ) → Type 0
  Behind x = Said (record r { codes = cs }) (front x) (leaves x) (text p x) d q e

  -- a part whose last code is c
  pub part_said : (c : Code) → code_number c ≡ n → ByRoot Behind c → SaidTree r p d q e
  part_said c k f x u us l m =
      let z = behind_root r.codes.now cs.now u n x h l.codes in
      let same : c ≡ root x = sym (numbered-code_number c) ∙ ap numbered (k ∙ z.1) ∙ numbered-code_number (root x) in
      by_root Behind x (subst (ByRoot Behind) same f) u us (record { codes = z.0; names = l.names }) m

  -- a number above 6 is no code of a tree
  pub no_part_said : 6 < n → SaidTree r p d q e
  no_part_said k x u us l m =
      let z = behind_root r.codes.now cs.now u n x h l.codes in
      let first : root x ≡ Empty = sym (numbered-code_number (root x)) ∙ get_or_past all_codes (code_number (root x)) Empty (omega (arith, z.1)) in
      absurd (omega (arith, z.1, ap code_number first))

-- a tree has a code
pub none_left : (r q : Rest) (p : Place) (d e : List ℕ) → length r.codes.now ≡ 0 → SaidTree r p d q e
none_left r q p d e h x u us l m = absurd (omega (arith, ap length l.codes, length-append u (postfix x), some_code x))
