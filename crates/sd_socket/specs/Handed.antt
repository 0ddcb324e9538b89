-- What was handed over, as contracts see it.
use Rattle.std.specs.Prelude.{◌≡◌, ℕ, ◌⊎◌, true, false, List, [], ◌∷◌, ◌++◌, All, length, map}
use Rattle.std.specs.declared.net.socket_addr.SocketAddr.{SocketAddr}
use Rattle.sd_socket.specs.declared.offered.Offered.{Offered}
use Rattle.sd_socket.specs.declared.offered.Offered.TheVariants.{Datagrams, Connections}
use Rattle.sd_socket.specs.declared.handed_over.HandedOver.{HandedOver}
use Rattle.sd_socket.specs.Meeting.{Meets}

-- one socket is for what the other is asked for, and meets its address
abbrev pub Fits : Offered → Offered → Type 0
Fits (Datagrams at) (Datagrams wanted) = Meets at wanted
Fits (Connections at) (Connections wanted) = Meets at wanted
Fits (Datagrams at) (Connections wanted) = ⊥
Fits (Connections at) (Datagrams wanted) = ⊥

-- how many sockets were handed over
abbrev pub socket_count : HandedOver → ℕ
socket_count h = length h.offers.items

-- what the sockets are that were handed over, in order
abbrev pub offers_of : HandedOver → List Offered
offers_of h = map (λ offer. offer.offered) h.offers.items

-- nothing was handed over, a socket of these kinds or another
abbrev pub HasNothing : HandedOver → Type 0
HasNothing h = (socket_count h ≡ 0) × (h.has_others ≡ false)

-- one socket more was handed over, or else something of another kind, and the sockets before it stay
abbrev pub WasAdded : HandedOver → HandedOver → Type 0
WasAdded old new = ((offered : Offered) × (offers_of new ≡ offers_of old ++ offered ∷ [])) ⊎ ((offers_of new ≡ offers_of old) × (new.has_others ≡ true))

-- none of the sockets that were handed over is the one that is asked for
abbrev pub HasNone : Offered → HandedOver → Type 0
HasNone wanted h = All (λ offer. Fits offer.offered wanted → ⊥) h.offers.items

-- no socket for datagrams that was handed over has this address
abbrev pub HasNoDatagrams : SocketAddr → HandedOver → Type 0
HasNoDatagrams at h = HasNone (Datagrams at) h

-- no socket that listens and was handed over has this address
abbrev pub HasNoListener : SocketAddr → HandedOver → Type 0
HasNoListener at h = HasNone (Connections at) h
