pub mod ServiceHeading
pub mod HeadingFault
pub mod GoodHeader
pub mod InFile
pub mod OneLine
pub mod SettingLine
pub mod Growing
pub mod PlainHeading
