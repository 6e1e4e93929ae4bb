-- What a slot's flags mean to a reader (document 01, "Slots, flags and cursors"; VIRTIO 1.1, 2.7.1).
use Rattle.std.specs.Prelude.{ℕ, ◌+◌, ◌*◌, ◌/◌, ◌%◌}
use Rattle.desc.specs.Flags.{NEXT, WRITE, INDIRECT, AVAIL, USED, has}
use Rattle.dump.specs.declared.Names.{Names}

-- the eleven bits that are none of the five flags: bits 3 to 6, and 8 to 14
abbrev pub unnamed_of : ℕ → ℕ
unnamed_of f = f / 8 % 16 * 8 + f / 256 % 128 * 256

-- "NEXT 1, WRITE 2, INDIRECT 4, AVAIL 128, USED 32768"
unfoldable pub names_of : ℕ → Names
names_of f =
    record {
      next = has f NEXT;
      write = has f WRITE;
      indirect = has f INDIRECT;
      avail = has f AVAIL;
      used = has f USED;
      unnamed = unnamed_of f;
    }
