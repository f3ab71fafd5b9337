-- The check of codes: one code more, and the end.
use Rattle.std.proofs.Common.{◌≡◌, ℕ, ◌+◌, ◌-◌, ◌<◌, ◌≤◌, ltb, List, [], ◌∷◌, length, get_or, drop, Some, Ok, Err, Result, ◌⊎◌, refl, ap, ◌∙◌, inl, inr, arith}
use Rattle.std.specs.Result.{result_ok}
use Rattle.std.proofs.lemmas.Bool.{lt-ltb, eq-eqb, ne_eqb}
use Rattle.std.proofs.lemmas.List.{drop_more, drop_all}
use Rattle.codes.specs.declared.code.Code.{Code}
use Rattle.codes.specs.declared.code.Code.TheVariants.{Then, Either, Optional, Star, Plus}
use Rattle.codes.specs.declared.code.UnknownCode.{UnknownCode}
use Rattle.codes.specs.Code.{Decodes, code_number}
use Rattle.codes.specs.Tree.{Tree, leaf, then, either, maybe, many, some}
use Rattle.codes.specs.Build.{goes, stops, model, fault, fresh, unary, binary, step, all_used, finish, after, build_on, build}
use Rattle.codes.specs.Counting.{Advances}

-- one code
pub decoded : (number : ℕ) (r : Result Code UnknownCode) (code : Code) → Decodes number r → Some code ≡ result_ok r → code_number code ≡ number
decoded number (Ok k) code d e = cc
decoded number (Err f) code d e = cc

pub fresh_advances : (n u d : ℕ) (s : List (Tree ℕ)) → u < n → length s ≡ d → Advances (Some (record { parts = d + 1; used = u + 1 })) (fresh (ltb u n) s u)
fresh_advances n u d s h k = (leaf (u + 1) ∷ s, ap (λ b. fresh b s u) (lt-ltb u n h), omega arith)

pub binary_advances : (f : Tree ℕ → Tree ℕ → Tree ℕ) (u d : ℕ) (s : List (Tree ℕ)) → 2 ≤ d → length s ≡ d
    → Advances (Some (record { parts = d - 1; used = u })) (binary f s u)
binary_advances f u d [] h k = absurd (omega arith)
binary_advances f u d (r ∷ []) h k = absurd (omega arith)
binary_advances f u d (r ∷ (l ∷ s)) h k = (f l r ∷ s, refl, omega arith)

pub unary_advances : (f : Tree ℕ → Tree ℕ) (u d : ℕ) (s : List (Tree ℕ)) → 1 ≤ d → length s ≡ d
    → Advances (Some (record { parts = d; used = u })) (unary f s u)
unary_advances f u d [] h k = absurd (omega arith)
unary_advances f u d (e ∷ s) h k = (f e ∷ s, refl, k)

pub two_advances : (n u d : ℕ) (code : Code) (s : List (Tree ℕ)) → (code ≡ Then) ⊎ (code ≡ Either) → 2 ≤ d → length s ≡ d
    → Advances (Some (record { parts = d - 1; used = u })) (step n (code_number code) s u)
two_advances n u d code s e h k =
    elim e [
      | inl q ↦ rw q (binary_advances then u d s h k)
      | inr q ↦ rw q (binary_advances either u d s h k)
    ]

pub one_advances : (n u d : ℕ) (code : Code) (s : List (Tree ℕ)) → (code ≡ Optional) ⊎ ((code ≡ Star) ⊎ (code ≡ Plus)) → 1 ≤ d → length s ≡ d
    → Advances (Some (record { parts = d; used = u })) (step n (code_number code) s u)
one_advances n u d code s e h k =
    elim e [
      | inl q ↦ rw q (unary_advances maybe u d s h k)
      | inr (inl q) ↦ rw q (unary_advances many u d s h k)
      | inr (inr q) ↦ rw q (unary_advances some u d s h k)
    ]

-- all codes
module _ (n : ℕ) (codes : List ℕ) (i u : ℕ) (s : List (Tree ℕ)) where
  one_code : i < length codes
      → build_on n i s u (drop i codes) ≡ after i (λ t m. build_on n (i + 1) t m (drop (i + 1) codes)) (step n (get_or codes i 0) s u)
  one_code h = ap (build_on n i s u) (drop_more codes i 0 h)

  pub goes_on : (t : List (Tree ℕ)) (m : ℕ) → i < length codes → build n codes ≡ build_on n i s u (drop i codes)
      → step n (get_or codes i 0) s u ≡ goes t m → build n codes ≡ build_on n (i + 1) t m (drop (i + 1) codes)
  goes_on t m h q e = q ∙ one_code h ∙ ap (after i (λ t m. build_on n (i + 1) t m (drop (i + 1) codes))) e

  pub goes_not : i < length codes → build n codes ≡ build_on n i s u (drop i codes) → step n (get_or codes i 0) s u ≡ stops → build n codes ≡ fault i
  goes_not h q e = q ∙ one_code h ∙ ap (after i (λ t m. build_on n (i + 1) t m (drop (i + 1) codes))) e

  pub at_end : length codes ≤ i → build n codes ≡ build_on n i s u (drop i codes) → build n codes ≡ finish n i s u
  at_end h q = q ∙ ap (build_on n i s u) (drop_all i codes h)

pub finish_model : (n i u : ℕ) (s : List (Tree ℕ)) → length s ≡ 1 → u ≡ n → (e : Tree ℕ) × (finish n i s u ≡ model e)
finish_model n i u [] h k = absurd (omega arith)
finish_model n i u (e ∷ []) h k = (e, ap (λ b. all_used b i e) (eq-eqb u n k))
finish_model n i u (e ∷ (f ∷ s)) h k = absurd (omega arith)

pub finish_fault : (n i u : ℕ) (s : List (Tree ℕ)) → (length s ≡ 1 → u ≡ n → ⊥) → finish n i s u ≡ fault i
finish_fault n i u [] h = refl
finish_fault n i u (e ∷ []) h = ap (λ b. all_used b i e) (ne_eqb u n (h refl))
finish_fault n i u (e ∷ (f ∷ s)) h = refl
