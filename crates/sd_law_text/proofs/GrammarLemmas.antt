-- The first flaw of a reading is the first of the nine that holds.
use Rattle.std.proofs.Common.{◌≡◌, ℕ, ℤ, Bool, true, false, not, List, [], ◌∷◌, refl, sym, ap, ◌∙◌, Option, Some, None, Result, Ok, Err, option_map, ok_or, is_none, is_some, unwrap_or}
use Rattle.sd_model_text.specs.Lists.{split, cut_at, Cut, ◌>>=◌}
use Rattle.sd_model_text.specs.Names.{Kind, KeyFault, clean}
use Rattle.sd_model_text.specs.Numbers.{NumberFlaw}
use Rattle.sd_model_text.specs.Lines.{Sample, Flaw, NoValue, NoType, UnknownType, BadNumber, BadRate, NegativeTimer, BadKey, LongMember, ExtraField, kind_named, typed, unless_so, field, value_of, rate_of, sample, is_below_zero, is_long_member, is_empty, reading_behind, reading}
use Rattle.sd_law_text.specs.Bytes.{has_byte}
use Rattle.sd_law_text.specs.Grammar.{err_of, where_, is_below, number_flaw, is_negative, is_long, flaws_behind, flaws, first_of, parted}
use Rattle.sd_law_text.proofs.CutLemmas.{has-cut}
use Rattle.sd_model_text.proofs.Short.{reading_cut, named, valued, is_over}

-- the flaws behind a key, in order
abbrev behind_key : Bool → Bool → List (Option Flaw)
behind_key long over = where_ long LongMember ∷ where_ over ExtraField ∷ []

-- what is read behind a key
abbrev read_key : Bool → Bool → Sample → Result Sample Flaw
read_key long over s = (unless_so long LongMember) >>= (λ short. (unless_so over ExtraField) >>= (λ whole. Ok s))

by_over : (over : Bool) (s : Sample) → err_of ((unless_so over ExtraField) >>= (λ whole. Ok s)) ≡ first_of (where_ over ExtraField ∷ [])
by_over true s = refl
by_over false s = refl

by_long : (long over : Bool) (s : Sample) → err_of (read_key long over s) ≡ first_of (behind_key long over)
by_long true over s = refl
by_long false over s = by_over over s

by_key : (k : Result (List ℕ) KeyFault) (long over : Bool) (s : List ℕ → Sample) → err_of ((named k) >>= (λ key. read_key long over (s key))) ≡ first_of (option_map BadKey (err_of k) ∷ behind_key long over)
by_key (Ok key) long over s = by_long long over (s key)
by_key (Err fault) long over s = refl

by_below : (below : Bool) (k : Result (List ℕ) KeyFault) (long over : Bool) (s : List ℕ → Sample) → err_of ((unless_so below NegativeTimer) >>= (λ above. (named k) >>= (λ key. read_key long over (s key)))) ≡ first_of (where_ below NegativeTimer ∷ option_map BadKey (err_of k) ∷ behind_key long over)
by_below true k long over s = refl
by_below false k long over s = by_key k long over s

by_rate : (r : Option ℕ) (below : Bool) (k : Result (List ℕ) KeyFault) (long over : Bool) (s : ℕ → List ℕ → Sample) → err_of ((ok_or r BadRate) >>= (λ rate. (unless_so below NegativeTimer) >>= (λ above. (named k) >>= (λ key. read_key long over (s rate key))))) ≡ first_of (where_ (is_none r) BadRate ∷ where_ below NegativeTimer ∷ option_map BadKey (err_of k) ∷ behind_key long over)
by_rate None below k long over s = refl
by_rate (Some rate) below k long over s = by_below below k long over (s rate)

by_number : (n : Result ℤ NumberFlaw) (r : Option ℕ) (test : ℤ → Bool) (k : Result (List ℕ) KeyFault) (long over : Bool) (s : ℤ → ℕ → List ℕ → Sample) → err_of ((valued n) >>= (λ v. (ok_or r BadRate) >>= (λ rate. (unless_so (test v) NegativeTimer) >>= (λ above. (named k) >>= (λ key. read_key long over (s v rate key)))))) ≡ first_of (option_map BadNumber (err_of n) ∷ where_ (is_none r) BadRate ∷ where_ (is_below test n) NegativeTimer ∷ option_map BadKey (err_of k) ∷ behind_key long over)
by_number (Ok v) r test k long over s = by_rate r (test v) k long over (s v)
by_number (Err flaw) r test k long over s = refl

by_kind : (kind : Option Kind) (name : List ℕ) (fields : List (List ℕ)) → err_of ((ok_or kind UnknownType) >>= (λ kind. (valued (value_of kind (field 0 fields))) >>= (λ v. (ok_or (rate_of (field 2 fields)) BadRate) >>= (λ rate. (unless_so (is_below_zero kind v) NegativeTimer) >>= (λ above. (named (clean name)) >>= (λ key. read_key (is_long_member kind (field 0 fields)) (is_over fields) (sample kind key (field 0 fields) v rate))))))) ≡ first_of (where_ (is_none kind) UnknownType ∷ number_flaw kind (field 0 fields) ∷ where_ (is_none (rate_of (field 2 fields))) BadRate ∷ where_ (is_negative kind (field 0 fields)) NegativeTimer ∷ option_map BadKey (err_of (clean name)) ∷ behind_key (is_long kind (field 0 fields)) (is_over fields))
by_kind None name fields = refl
by_kind (Some kind) name fields =
    by_number (value_of kind (field 0 fields)) (rate_of (field 2 fields)) (is_below_zero kind) (clean name) (is_long_member kind (field 0 fields)) (is_over fields) (λ v rate key. sample kind key (field 0 fields) v rate)

by_type : (type : List ℕ) (name : List ℕ) (fields : List (List ℕ)) → err_of ((typed type) >>= (λ kind. (valued (value_of kind (field 0 fields))) >>= (λ v. (ok_or (rate_of (field 2 fields)) BadRate) >>= (λ rate. (unless_so (is_below_zero kind v) NegativeTimer) >>= (λ above. (named (clean name)) >>= (λ key. read_key (is_long_member kind (field 0 fields)) (is_over fields) (sample kind key (field 0 fields) v rate))))))) ≡ first_of (where_ (is_empty type) NoType ∷ where_ (is_none (kind_named type)) UnknownType ∷ number_flaw (kind_named type) (field 0 fields) ∷ where_ (is_none (rate_of (field 2 fields))) BadRate ∷ where_ (is_negative (kind_named type) (field 0 fields)) NegativeTimer ∷ option_map BadKey (err_of (clean name)) ∷ behind_key (is_long (kind_named type) (field 0 fields)) (is_over fields))
by_type [] name fields = refl
by_type (b ∷ bytes) name fields = by_kind (kind_named (b ∷ bytes)) name fields

behind : (name : List ℕ) (fields : List (List ℕ)) → err_of (reading_behind name fields) ≡ first_of (flaws_behind name fields)
unfolding reading_behind
behind name fields = by_type (field 1 fields) name fields

by_cut : (piece : List ℕ) (c : Option Cut) → err_of (reading_cut c) ≡ first_of (where_ (not (is_some c)) NoValue ∷ flaws_behind (unwrap_or c (record { part = piece; rest = [] })).part (split 124 (unwrap_or c (record { part = piece; rest = [] })).rest))
by_cut piece None = refl
by_cut piece (Some c) = behind c.part (split 124 c.rest)

-- the flaw of a reading is the first that holds
pub first_flaw : (piece : List ℕ) → err_of (reading piece) ≡ first_of (flaws piece)
first_flaw piece =
    by_cut piece (cut_at 58 piece)
    ∙ ap (λ b. first_of (where_ (not b) NoValue ∷ flaws_behind (parted piece).part (split 124 (parted piece).rest))) (sym (has-cut 58 piece))

pub err-of : (r : Result Sample Flaw) (flaw : Flaw) → err_of r ≡ Some flaw → r ≡ Err flaw
err-of (Ok s) flaw h = absurd (cc)
err-of (Err g) flaw h = cc
