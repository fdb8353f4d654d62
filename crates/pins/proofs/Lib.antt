pub mod OneScan
pub mod ScanLemmas
pub mod ScanOverPlain
pub mod PinWithin
pub mod ScanWithin
pub mod PinAlone
