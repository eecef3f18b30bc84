-- Addresses of the registers, and numbers of the bits that a rule names, after the data sheet's names, without blanks and
-- slashes (document 01, "Registers"). DACH1 to DACH12 stand between DACH0 and DACH13; INTS to INTV are the sources that IEX and IRQX have a bit
-- each for, CLRHOV and CLRVOV the bits of CLRFLG that clear HCNTOV and VCNTOV.
use Rattle.std.specs.Prelude.{ℕ}

abbrev pub PT0 : ℕ
PT0 = 0x00

abbrev pub PT1 : ℕ
PT1 = 0x01

abbrev pub PT2DIR : ℕ
PT2DIR = 0x02

abbrev pub PT2 : ℕ
PT2 = 0x03

abbrev pub PT3 : ℕ
PT3 = 0x04

abbrev pub MDCON : ℕ
MDCON = 0x05

abbrev pub HVCON : ℕ
HVCON = 0x06

abbrev pub HCNTL : ℕ
HCNTL = 0x07

abbrev pub HCNTH : ℕ
HCNTH = 0x08

abbrev pub VCNTL : ℕ
VCNTL = 0x09

abbrev pub VCNTH : ℕ
VCNTH = 0x0a

abbrev pub SYNCON : ℕ
SYNCON = 0x0b

abbrev pub ENDAC : ℕ
ENDAC = 0x0c

abbrev pub AD0 : ℕ
AD0 = 0x0d

abbrev pub AD1 : ℕ
AD1 = 0x0e

abbrev pub IEX : ℕ
IEX = 0x0f

abbrev pub IRQX : ℕ
IRQX = 0x10

abbrev pub CLRFLG : ℕ
CLRFLG = 0x11

abbrev pub CLRWDT : ℕ
CLRWDT = 0x12

abbrev pub IIADR : ℕ
IIADR = 0x13

abbrev pub IIDAT : ℕ
IIDAT = 0x14

abbrev pub IISTS : ℕ
IISTS = 0x15

abbrev pub BT : ℕ
BT = 0x16

abbrev pub BTCON : ℕ
BTCON = 0x17

abbrev pub DACH0 : ℕ
DACH0 = 0x18

abbrev pub DACH13 : ℕ
DACH13 = 0x25

-- ---- bits of MDCON

abbrev pub HSEL : ℕ
HSEL = 2

abbrev pub MD12 : ℕ
MD12 = 0

-- ---- bits of HVCON

abbrev pub HCNTOV : ℕ
HCNTOV = 7

abbrev pub VCNTOV : ℕ
VCNTOV = 6

abbrev pub HSYNCI : ℕ
HSYNCI = 5

abbrev pub VSYNCI : ℕ
VSYNCI = 4

abbrev pub HPOLI : ℕ
HPOLI = 3

abbrev pub VPOLI : ℕ
VPOLI = 2

-- ---- bits of IEX and IRQX

abbrev pub INTS : ℕ
INTS = 5

abbrev pub INTD : ℕ
INTD = 4

abbrev pub INTA : ℕ
INTA = 3

abbrev pub INTR : ℕ
INTR = 2

abbrev pub INTE : ℕ
INTE = 1

abbrev pub INTV : ℕ
INTV = 0

-- ---- bits of CLRFLG

abbrev pub CLRHOV : ℕ
CLRHOV = 7

abbrev pub CLRVOV : ℕ
CLRVOV = 6

-- ---- bits of IISTS

abbrev pub START : ℕ
START = 5

abbrev pub STOP : ℕ
STOP = 4

abbrev pub ENDDC : ℕ
ENDDC = 3

abbrev pub TRX : ℕ
TRX = 2

abbrev pub RXAK : ℕ
RXAK = 1

abbrev pub TXAK : ℕ
TXAK = 0

-- ---- bits of BTCON

abbrev pub TBS : ℕ
TBS = 1

abbrev pub ENBT : ℕ
ENBT = 0
