-- What an object gave in two steps.
use Rattle.std.proofs.Common.{◌≡◌, ℕ, List, ◌++◌, refl, sym, ap, append_assoc}
use Rattle.sd_model_outside.specs.Outside.{Content, Datagrams, Ticks, Sessions, Session}
use Rattle.sd_model_outside.specs.Uses.{with_datagrams, with_ticks, with_sessions, with_back}

-- datagrams before others
pub with_datagrams-append : (content : Content) (xs ys : List (List ℕ)) → with_datagrams xs (with_datagrams ys content) ≡ with_datagrams (xs ++ ys) content
with_datagrams-append (Datagrams left) xs ys = ap Datagrams (sym (append_assoc xs ys left))
with_datagrams-append content xs ys = refl

-- ticks before others
pub with_ticks-append : (content : Content) (xs ys : List ℕ) → with_ticks xs (with_ticks ys content) ≡ with_ticks (xs ++ ys) content
with_ticks-append (Ticks left) xs ys = ap Ticks (sym (append_assoc xs ys left))
with_ticks-append content xs ys = refl

-- sessions before others
pub with_sessions-append : (content : Content) (xs ys : List Session) → with_sessions xs (with_sessions ys content) ≡ with_sessions (xs ++ ys) content
with_sessions-append (Sessions left back) xs ys = ap (λ all. Sessions all back) (sym (append_assoc xs ys left))
with_sessions-append content xs ys = refl

-- sessions that were given back after others
pub with_back-append : (content : Content) (xs ys : List Session) → with_back ys (with_back xs content) ≡ with_back (xs ++ ys) content
with_back-append (Sessions left back) xs ys = ap (Sessions left) (append_assoc back xs ys)
with_back-append content xs ys = refl
