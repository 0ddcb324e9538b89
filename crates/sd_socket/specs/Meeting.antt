-- When a socket that was handed over is one that is asked for.
use Rattle.std.specs.Prelude.{◌≡◌, ◌⊎◌}
use Rattle.std.specs.declared.net.ip_addr.IpAddr.{IpAddr}
use Rattle.std.specs.declared.net.socket_addr.SocketAddr.{SocketAddr}
use Rattle.std.specs.Net.Addr.{MatchIp, IsUnspecifiedV4, IsUnspecifiedV6}
use Rattle.std.specs.Net.Socket.{socket_ip, socket_port}

-- 0.0.0.0 or ::, which stand for each address of this machine
abbrev pub IsEach : IpAddr → Type 0
IsEach ip = MatchIp ip IsUnspecifiedV4 IsUnspecifiedV6

-- the ports are one, and the addresses are one or one of them stands for each
abbrev pub Meets : SocketAddr → SocketAddr → Type 0
Meets a b = (socket_port a ≡ socket_port b) × ((socket_ip a ≡ socket_ip b) ⊎ (IsEach (socket_ip a) ⊎ IsEach (socket_ip b)))
