-- The sizes, as src/lib.rt has them. Assumes nothing.
use Rattle.std.specs.Prelude.{ℕ}

-- sites of a network at most, and of one of version 1
abbrev pub sites_most : ℕ
sites_most = 64

abbrev pub first_sites : ℕ
first_sites = 16

-- net-inputs of a site
abbrev pub input_count : ℕ
input_count = 5

-- net-outputs of a site, the split output among them, and its number
abbrev pub output_count : ℕ
output_count = 6

abbrev pub split_port : ℕ
split_port = 5

-- in-queues of a site: that of output 0, and that of the split output
abbrev pub in_queue_count : ℕ
in_queue_count = 2

-- ports of a site that a channel may join: 1 to 4
abbrev pub port_count : ℕ
port_count = 4

-- places of a queue
abbrev pub queue_room : ℕ
queue_room = 8

-- codes of RUN, and with those of the split output and its operator
abbrev pub code_count : ℕ
code_count = 13

abbrev pub split_code_count : ℕ
split_code_count = 15

-- the channel of an output that is joined to nothing
abbrev pub no_channel : ℕ
no_channel = 65535

-- stored sends at most
abbrev pub sends_most : ℕ
sends_most = 255

-- packets accepted at most
abbrev pub packets_most : ℕ
packets_most = 255

-- bits of a set of sites
abbrev pub set_bits : ℕ
set_bits = 64
