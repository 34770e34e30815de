mod Exchanges
mod Judged
mod Octets
mod Said
